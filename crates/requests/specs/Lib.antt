-- Document 01, The tool: what it sends.
pub mod Sent
