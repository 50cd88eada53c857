-- what public contracts say
pub mod ShardRows
pub mod Shards
pub mod Live
pub mod Tables
pub mod Makes
pub mod Making
-- inside the crate
pub mod Replays
pub mod Places
pub mod Eights
pub mod Wholes
