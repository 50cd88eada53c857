mod Passing
mod Lexed
pub mod Reading
