pub mod Complete
pub mod Scanned
