-- Laws of what arrives, for this crate's proofs and for the crates above it.
pub mod RoomLaws
pub mod MeaningLaws
