-- The definitions that the contracts of this crate and of those above cite.
pub mod Constants
pub mod Examples
pub mod Fips180
pub mod Laws
