-- what public contracts say, beside what mob_law defines
pub mod Grounds
pub mod Rules
pub mod SingleSteps
-- what only loops and lemmas use
pub mod Reaches
pub mod Closing
pub mod Nearness
pub mod Scenes
pub mod MatesInReach
