-- The lemmas of this crate.
mod Across
mod Appended
mod Asked
mod Cut
mod Found
mod Once
mod Printed
mod Progress
mod Promised
mod Turned
