pub mod Weights
pub mod Running
pub mod Prefixes
pub mod Additive
pub mod Near
pub mod Refusals
pub mod Outcomes
