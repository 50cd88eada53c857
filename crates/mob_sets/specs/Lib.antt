-- What public contracts say; of Tidy they cite AreTidy alone.
pub mod Mobility
pub mod Rows
pub mod Tidy
