-- what public contracts say
pub mod Language
pub mod Reading
pub mod Faults
