-- what public contracts say of any source and sink
pub mod Faults
pub mod Reading
pub mod Writing
pub mod Gathering
-- what they say of sources and sinks in memory, and of readers and writers of std
pub mod RepeatState
pub mod PiecesState
pub mod SinkState
pub mod Adapters
