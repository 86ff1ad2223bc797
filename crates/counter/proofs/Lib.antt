-- The lemmas of this crate.
pub mod Counting
pub mod Counts
pub mod Found
pub mod Kept
pub mod Powered
mod Walks
pub mod Writes
