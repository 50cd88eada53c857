pub mod Leaves
pub mod Both
pub mod Asking
pub mod Backwards
