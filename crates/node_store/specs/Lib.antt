-- what public contracts say
pub mod NameLists
pub mod Chained
pub mod Links
pub mod Nodes
pub mod Graphs
pub mod Places
