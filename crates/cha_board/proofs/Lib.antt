pub mod Identity
pub mod ManTests
pub mod SetLaws
pub mod Scans
pub mod Counting
pub mod Sightings
pub mod Kings
pub mod RightLaws
pub mod Builds
pub mod SetBits
pub mod Pulls
mod Shifted
pub mod Contents
pub mod Betweens
pub mod Firsts
pub mod Tidiness
mod Moving
mod Showing
pub mod Tables
pub mod Sliding
pub mod Striking
mod Examples
pub mod Beginning
pub mod PackedWords
pub mod Keeping
