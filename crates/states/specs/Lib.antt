-- Packed states: their bytes, what is read of them, and what is claimed.
pub mod Packed
pub mod Readers
pub mod Claims
