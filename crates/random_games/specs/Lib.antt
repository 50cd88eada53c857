-- what public contracts say
pub mod Words
pub mod Games
pub mod Made
pub mod AsRead
