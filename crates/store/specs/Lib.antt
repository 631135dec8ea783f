-- Document 01, Bench store (house) and stream (DDP_034).
pub mod Layout
pub mod Check
pub mod Faults
pub mod Read
pub mod Answer
pub mod Contents
pub mod Days
pub mod Claims
