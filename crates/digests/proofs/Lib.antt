-- The lemmas of this crate.
mod Plain
pub mod Strings
