pub mod CableEnds
pub mod Demand
pub mod TradeCases
pub mod DayCases
pub mod AddressCases
