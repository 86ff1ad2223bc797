-- The definitions that the contracts of this crate and of the signer's cite.
pub mod Lines
pub mod Rows
pub mod Signatures
pub mod Views
