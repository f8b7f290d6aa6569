pub mod LiveDemands
pub mod Ranges
