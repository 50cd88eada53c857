pub mod Digits
pub mod Cutting
pub mod Choosing
pub mod Ending
pub mod Completing
pub mod Behind
pub mod Expecting
pub mod Counts
