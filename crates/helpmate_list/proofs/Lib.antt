pub mod Dealing
pub mod Deepening
pub mod Mating
pub mod Taking
pub mod ToMove
