pub mod Stepping
mod Depths
