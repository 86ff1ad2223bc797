-- The hash as the statements of all crates have it. Assumes nothing: the statements are for every such function.
use Rattle.std.specs.Prelude.{ℕ, List}

-- a hash: a function from rows of numbers to numbers
abbrev pub Mix : Type 0
Mix = List ℕ → ℕ
