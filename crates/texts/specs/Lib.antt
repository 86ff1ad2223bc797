-- The definitions that the contracts of this crate and of those above cite.
pub mod Bits
pub mod Commands
pub mod SignatureLines
