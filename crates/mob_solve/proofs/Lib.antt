pub mod Sizes
pub mod Reaches
pub mod Fills
pub mod RowRules
pub mod Empty
pub mod Entered
pub mod ReachedBy
