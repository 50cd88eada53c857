-- what public contracts say
pub mod Shares
pub mod RoundAnswers
pub mod Crews
pub mod Splits
pub mod Gathers
pub mod Histories
pub mod Hiring
pub mod Worked
-- inside the crate
pub mod Helps
pub mod Deepens
pub mod Making
pub mod Knowing
pub mod Hirings
