-- The lemmas of this crate.
pub mod Accepts
pub mod Each
pub mod Flat
pub mod Forgeries
pub mod Leaves
pub mod Numbers
pub mod Own
pub mod Signs
pub mod Written
