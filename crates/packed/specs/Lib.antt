-- Demand 3 over the calls of tacho.h.
pub mod PackedEnds
pub mod Simulation
pub mod Fresh
pub mod PackedDemand
