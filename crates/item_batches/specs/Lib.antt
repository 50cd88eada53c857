-- what public contracts say
pub mod Items
pub mod Readers
pub mod Pieces
pub mod Batches
