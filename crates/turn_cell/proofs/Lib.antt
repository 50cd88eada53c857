mod Counting
mod Prefix
mod Same
mod Opened
mod SlotTaken
mod Serving
mod Splitting
mod Joining
mod Meeting
pub mod Knowing
mod OnePassLeft
pub mod Sending
