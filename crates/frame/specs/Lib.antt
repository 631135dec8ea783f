-- Document 01, Frames; document 02, Req 05.
pub mod Frame
pub mod Messages
pub mod Front
pub mod Given
pub mod Readdressed
pub mod Claims
