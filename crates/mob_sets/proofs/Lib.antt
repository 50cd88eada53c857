pub mod Order
pub mod RowsShow
pub mod Keeping
pub mod Canonical
pub mod KindTests
pub mod Joining
