-- Document 01, The tool: its state.
pub mod State
pub mod Next
pub mod Codes
