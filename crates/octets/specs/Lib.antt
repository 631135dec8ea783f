-- Definitions that every crate above uses, in the order of document 01.
pub mod Order
pub mod Numbers
pub mod Sum
pub mod Buffer
pub mod Search
pub mod Values
