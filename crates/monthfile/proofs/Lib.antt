pub mod Cuts
pub mod Breaks
pub mod Digits
pub mod Plain
pub mod Back
