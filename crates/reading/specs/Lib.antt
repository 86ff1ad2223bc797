-- The definitions that the contracts of this crate and of the one above it cite.
pub mod Newlines
pub mod Reading
pub mod Spaced
pub mod Spelling
