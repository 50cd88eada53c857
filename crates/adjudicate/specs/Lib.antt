-- what public contracts say
pub mod CertFindings
pub mod Jobs
pub mod Report
pub mod Runs
pub mod Corrections
pub mod Orders
pub mod Truth
pub mod Statuses
-- what only the crate's own functions say of each other
pub mod Steps
