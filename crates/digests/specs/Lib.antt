-- The definitions that the contracts of this crate and of those above cite.
pub mod Digests
pub mod Promises
