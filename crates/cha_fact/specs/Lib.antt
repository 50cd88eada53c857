pub mod Truths
pub mod Keys
pub mod Entries
