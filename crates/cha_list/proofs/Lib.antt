pub mod Distinct
pub mod Longer
pub mod WhenTold
