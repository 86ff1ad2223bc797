-- The definitions that the contracts of this crate cite.
pub mod Arguments
pub mod Serving
