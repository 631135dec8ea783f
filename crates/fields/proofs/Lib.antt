-- Laws of numbers in bytes, for this crate's proofs and for the crates above it.
pub mod NumberLaws
pub mod FieldLaws
