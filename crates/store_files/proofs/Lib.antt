-- The lemmas of this crate.
mod Overwriting
