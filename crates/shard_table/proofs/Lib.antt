mod Keying
mod Rowing
mod Storing
mod Lasting
mod Staying
mod Turning
mod PassAt
mod Eights
pub mod Knowing
pub mod OneEntry
pub mod Sending
mod Listing
