-- Laws of the tool, for this crate's proofs and for the crates above it.
pub mod RoomLaws
pub mod TakenLaws
pub mod AfterLaws
pub mod CallLaws
pub mod BoundLaws
pub mod Given
pub mod Days
