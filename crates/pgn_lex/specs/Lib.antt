-- what public contracts say
pub mod Classes
pub mod Lexing
pub mod Lines
pub mod Pieces
pub mod Tags
pub mod Tokens
-- what only loops and lemmas use
pub mod Stages
pub mod Told
pub mod Values
