-- A store as the bytes of its file. Assumes nothing: these are definitions.
use Rattle.std.specs.Prelude.{ℕ, ◌+◌, List, ◌++◌, length, take, drop}
use Rattle.std.specs.Int.{w32, to_be_bytes}
use Rattle.std.specs.List.{flat_map}

-- each number in four bytes, the highest first
abbrev pub file_bytes : (numbers : List ℕ) → List ℕ
file_bytes m = flat_map (to_be_bytes w32) m

-- bytes in which others are written over those that stand from a place on
abbrev pub overwritten : (bytes : List ℕ) → (at : ℕ) → (new : List ℕ) → List ℕ
overwritten bs at xs = take at bs ++ (xs ++ drop (at + length xs) bs)
