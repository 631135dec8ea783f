-- Document 01, The tool: what a string that arrives means to it.
pub mod Replies
pub mod Meaning
