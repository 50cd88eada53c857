pub mod Items
pub mod GivenGames
pub mod Settling
pub mod Batching
