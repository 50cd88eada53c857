pub mod Sums
mod Ways
