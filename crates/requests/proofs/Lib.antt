-- Laws of the frames sent, for this crate's proofs and for the crates above it.
pub mod SentLaws
