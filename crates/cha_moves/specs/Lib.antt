-- what public contracts say
pub mod Step
pub mod Moves
pub mod Ends
pub mod Standings
pub mod MateLines
pub mod Lines
pub mod Dead
pub mod Texts
pub mod Ways
pub mod Shields
-- what only loops and lemmas use
pub mod Checks
