-- what public contracts say
pub mod Places
pub mod Replacing
pub mod Correcting
pub mod Kept
pub mod Keeping
