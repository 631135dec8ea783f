-- Document 01, Record arrays.
pub mod Arrays
pub mod View
pub mod Written
pub mod Claims
