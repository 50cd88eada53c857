-- what public contracts say
pub mod Men
pub mod Squares
pub mod Board
pub mod Build
pub mod SquareSets
pub mod Shifts
pub mod Letters
pub mod Packing
pub mod Aims
pub mod MenSets
-- what only loops and lemmas use
pub mod Rays
pub mod SetNumbers
