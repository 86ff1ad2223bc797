-- The lemmas of this crate.
mod Carries
pub mod Fronts
pub mod Hexes
pub mod Joined
pub mod Lasts
pub mod Members
pub mod Numbers
pub mod Rows
