-- Laws of the tool's state, for this crate's proofs and for the crates above it.
pub mod StateLaws
pub mod NextLaws
