-- Laws that the proofs of this crate and of the crates above it cite.
pub mod Tests
pub mod SumLaws
pub mod BufferLaws
pub mod PartLaws
pub mod OrderLaws
pub mod CallLaws
pub mod SearchLaws
pub mod ValueLaws
