-- The definitions that the contracts of this crate and of the program cite.
pub mod Replies
pub mod Sessions
