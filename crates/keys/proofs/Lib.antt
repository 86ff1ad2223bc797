-- The lemmas of this crate.
pub mod Eights
pub mod Refused
pub mod Shown
