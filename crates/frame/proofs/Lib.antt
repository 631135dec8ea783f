-- Laws of frames, for this crate's proofs and for the crates above it.
pub mod WriteLaws
pub mod CheckLaws
pub mod FrontLaws
pub mod GivenLaws
pub mod Theorems
pub mod Readdressed
pub mod Claims
