-- what public contracts say
pub mod Backwards
pub mod Forms
pub mod InOrder
pub mod Fitting
pub mod Resolving
pub mod Playing
pub mod Writing
-- what only loops and lemmas use
pub mod Seen
pub mod Sources
