pub mod Calls
pub mod Simulation
pub mod Facts
pub mod Theorem
pub mod Fresh
