-- The definitions that the contracts of this crate cite.
pub mod Laws
pub mod Promises
pub mod Runs
pub mod Steps
pub mod Turns
