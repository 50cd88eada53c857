-- what public contracts say
pub mod Shortest
pub mod Parts
