-- Document 01, Transfer types.
pub mod Kinds
pub mod Table
pub mod Name
pub mod Claims
