pub mod Means
pub mod Plain
pub mod Shown
