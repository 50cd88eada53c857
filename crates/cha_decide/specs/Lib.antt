-- what public contracts say
pub mod Shown
-- inside the crate
pub mod Scanning
