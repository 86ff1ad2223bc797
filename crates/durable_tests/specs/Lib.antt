-- The definition that a contract of this crate cites.
pub mod Simulated
