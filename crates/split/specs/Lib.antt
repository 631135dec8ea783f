-- Document 01, Splitting; document 02, Req 05.
pub mod Split
pub mod Codes
pub mod Join
pub mod Claims
