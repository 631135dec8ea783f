-- Document 01, The unit: its state and its services.
pub mod State
pub mod Services
pub mod Days
pub mod After
