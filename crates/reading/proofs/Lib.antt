-- The lemmas of this crate.
pub mod Cuts
mod Decimals
mod Hexes
pub mod Lines
pub mod Newlines
pub mod Pieces
mod Prefixes
pub mod Printed
mod Rejoined
