-- what public contracts say
pub mod Lines
pub mod Verdicts
pub mod Plies
pub mod Outcomes
pub mod Summaries
-- what loops and lemmas use
pub mod Spelled
