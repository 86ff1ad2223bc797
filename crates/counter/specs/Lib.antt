-- The definitions that the contracts of this crate cite.
pub mod Answers
pub mod Cells
pub mod Promises
pub mod Reserving
pub mod Store
