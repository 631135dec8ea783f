-- Laws of packed states, for this crate's proofs and for the crates above it.
pub mod FieldLaws
pub mod UnitLaws
pub mod ToolLaws
pub mod ReaderLaws
pub mod Claims
