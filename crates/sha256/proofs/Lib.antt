-- The lemmas of this crate.
pub mod Absorbing
pub mod Bounds
pub mod Digests
pub mod Eight
pub mod Encoding
