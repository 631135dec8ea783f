-- Document 01, Bench store (house): "Appending puts the answer last".
pub mod Append
pub mod Days
pub mod Claims
