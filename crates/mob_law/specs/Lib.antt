-- All of these are cited by the laws.
pub mod Reach
pub mod Closed
pub mod Threats
pub mod Static
pub mod Explored
pub mod Castling
