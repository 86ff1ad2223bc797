-- The lemmas of this crate.
pub mod Bits
mod Examples
mod Padding
mod Roots
pub mod Steps
