-- what public contracts say
pub mod Fields
pub mod Placement
pub mod Fen
pub mod Written
-- what only loops and lemmas use
pub mod Adding
