pub mod Promoting
pub mod PartsInOrder
pub mod ReadInOrder
pub mod Sifting
pub mod Sourced
pub mod Seeing
pub mod Resolved
pub mod Replayed
pub mod Played
pub mod PlayedGames
pub mod NamedMoves
pub mod Naming
pub mod Spelling
pub mod Written
mod Examples
