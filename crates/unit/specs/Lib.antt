-- Document 01, The unit: its call.
pub mod State
pub mod Call
pub mod Given
pub mod Piece
pub mod Days
