pub mod Numbering
pub mod Sharing
pub mod Calling
pub mod Gathering
pub mod Going
pub mod Ending
pub mod Crewing
pub mod Working
pub mod Crossing
pub mod Places
mod PassesTaken
pub mod Partaking
pub mod Refusing
pub mod Staffing
