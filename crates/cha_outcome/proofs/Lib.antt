pub mod Asked
pub mod Examples
pub mod NamedLegal
pub mod PlayedThrough
pub mod ResultsStay
pub mod ShownDead
