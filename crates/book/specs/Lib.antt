pub mod Limits
pub mod Faults
pub mod Postings
pub mod Sheets
pub mod Journals
pub mod Reversals
pub mod Shown
