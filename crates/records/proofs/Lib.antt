-- Laws of record arrays, the theorems on whole bodies and on views, and what the proofs of the functions over a view share.
pub mod HeaderLaws
pub mod RunLaws
pub mod RecordLaws
pub mod WrittenLaws
pub mod ReadLaws
pub mod Theorems
pub mod ViewTheorems
pub mod Claims
