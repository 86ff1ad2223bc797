-- The lemmas of this crate.
mod Commanded
mod Cuts
pub mod Looks
pub mod OneMeaning
pub mod ReadBack
mod Stores
