-- The definitions that the contracts of this crate cite.
pub mod Answers
pub mod OneTree
pub mod Promises
pub mod Runs
