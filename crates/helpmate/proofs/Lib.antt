pub mod Counting
pub mod FewLines
pub mod Saying
pub mod Expanding
pub mod Trying
pub mod LastPly
