mod Finding
mod Costing
pub mod Bounded
pub mod Leaves
pub mod Answering
mod Leading
mod OnceWritten
mod Appending
mod Telling
pub mod Expanded
