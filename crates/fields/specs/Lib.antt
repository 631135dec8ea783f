-- Document 01: numbers on the wire.
pub mod BigEndian
