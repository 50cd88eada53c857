pub mod Made
pub mod Kept
pub mod Validity
pub mod Contained
pub mod Listed
mod Alone
pub mod Near
pub mod Filling
pub mod KingSquare
pub mod Sureness
pub mod Touched
pub mod WayLaws
mod SomeFrom
pub mod Arriving
pub mod Goings
pub mod Pushes
pub mod Examples
pub mod PlacedMen
mod MateExamples
pub mod Clearing
pub mod Shielding
pub mod Facing
pub mod GoingLegally
pub mod SafeCastling
pub mod Mated
pub mod MateLines
pub mod StayingDead
pub mod Captured
pub mod MateMoves
pub mod Uncovering
pub mod Checking
pub mod SpecialChecks
pub mod Apart
pub mod LegalApart
pub mod Counted
pub mod ByKind
pub mod Quiet
