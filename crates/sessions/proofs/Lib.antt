-- The lemmas of this crate.
pub mod Alike
mod Fewer
pub mod Promised
