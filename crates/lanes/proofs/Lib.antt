-- The lemmas of this crate.
mod Blocks
mod Each
mod Steps
