pub mod LineEnds
pub mod Runs
pub mod Given
pub mod Kept
