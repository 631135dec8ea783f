-- Laws of appending. Callers start at Theorems.
pub mod AppendLaws
pub mod KeptLaws
pub mod Theorems
pub mod Refusals
pub mod Bounds
pub mod Days
pub mod Claims
