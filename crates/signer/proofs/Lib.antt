-- The lemmas of this crate.
pub mod Entries
pub mod Know
mod OneTree
pub mod Runs
