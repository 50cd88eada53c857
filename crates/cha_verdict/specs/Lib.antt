pub mod Verdicts
pub mod Sound
pub mod Scans
