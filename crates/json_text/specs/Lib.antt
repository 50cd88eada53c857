-- what public contracts say
pub mod Escapes
pub mod Texts
pub mod Meant
