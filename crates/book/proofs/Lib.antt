pub mod Admitted
pub mod Moves
pub mod Back
pub mod Evens
pub mod Entries
pub mod Made
