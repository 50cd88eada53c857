-- What public contracts say.
pub mod Least
pub mod Weak
-- What loops and lemmas use.
pub mod Reaching
pub mod Filled
