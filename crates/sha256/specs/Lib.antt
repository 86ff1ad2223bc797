-- The definitions that the contracts of this crate and of those above cite.
pub mod Eight
pub mod Laws
pub mod Rows
pub mod Streams
