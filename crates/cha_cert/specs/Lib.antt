pub mod Certificates
pub mod AtOnce
pub mod Indexed
pub mod Costs
pub mod Shared
