-- what public contracts say
pub mod Outcomes
pub mod Asking
-- inside the crate
pub mod Grown
pub mod Regions
pub mod HowManyWait
pub mod Lasting
