-- what public contracts say
pub mod Small
pub mod Lone
pub mod Reasons
-- what only the crate's own functions and lemmas use
pub mod MateFreeKinds
