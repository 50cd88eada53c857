-- what public contracts say
pub mod Digits
pub mod Labels
pub mod Spelled
pub mod SharedSpelled
pub mod TextLines
pub mod Texts
pub mod SharedTexts
pub mod Versions
pub mod Writable
-- what only loops and lemmas use
pub mod Agreeing
