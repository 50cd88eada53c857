-- what public contracts say
pub mod Counted
pub mod Rounds
-- inside the crate
pub mod Searches
