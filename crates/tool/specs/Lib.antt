-- Document 01, The tool: what follows from an event, and its calls.
pub mod After
pub mod Call
pub mod Given
pub mod Days
