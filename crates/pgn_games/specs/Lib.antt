-- what public contracts say
pub mod Cutting
pub mod Fields
pub mod Games
pub mod Moving
pub mod Order
pub mod Reading
pub mod Settling
pub mod Splitting
pub mod Keeping
pub mod Wins
-- what only loops and lemmas use
pub mod Holding
pub mod Summing
