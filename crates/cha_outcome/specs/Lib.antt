pub mod Items
pub mod PositionStatuses
pub mod Rulings
pub mod LegalMoves
pub mod PlayedOut
pub mod Outcomes
pub mod Totals
