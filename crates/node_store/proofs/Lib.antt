pub mod Naming
pub mod Linking
pub mod Pushing
pub mod Keying
pub mod Storing
pub mod Adding
pub mod Marking
pub mod Paths
