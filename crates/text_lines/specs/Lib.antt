-- what public contracts say
pub mod Lines
pub mod Reading
-- what only loops and lemmas use
pub mod Holding
pub mod Keeping
pub mod Told
