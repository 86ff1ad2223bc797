-- The definitions that the contracts of this crate and of those above cite.
pub mod Hex
pub mod Laws
pub mod Members
pub mod Mix
pub mod Rows
pub mod Tag
pub mod Value
