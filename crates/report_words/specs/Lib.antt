pub mod Columns
pub mod Counts
pub mod Reasons
pub mod Words
pub mod LegalLines
