pub mod Adding
pub mod Gathered
pub mod Giving
