pub mod Splitting
pub mod Addings
pub mod Writing
pub mod RoundTrip
pub mod WrittenRead
mod Examples
