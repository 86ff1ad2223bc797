-- The lemmas of this crate.
pub mod Levels
pub mod Paths
pub mod Powers
pub mod Walks
