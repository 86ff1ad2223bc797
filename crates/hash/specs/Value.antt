-- What the bytes of a number mean, and its bits. Assumes nothing: these are definitions.
use Rattle.std.specs.Prelude.{ℕ, zero, suc, ◌-◌, ◌/◌, ◌%◌, ◌^◌, Bool, List, [], ◌∷◌, map, ◌==◌, slice_index}
use Rattle.std.specs.List.{range_with_len}
use Rattle.std.specs.Int.Digits.{number_from_digits}
use Rattle.hash.specs.declared.number.Number.{Number}

-- what bytes mean, the highest first
abbrev pub worth : List ℕ → ℕ
worth bs = number_from_digits 256 bs

-- what a number means
abbrev pub value_of : Number → ℕ
value_of n = worth n.bytes

-- the lowest w bytes of a number, the highest of them first
unfoldable pub bytes_from : ℕ → ℕ → List ℕ
bytes_from zero v = []
bytes_from (suc w) v = v / 256 ^ w % 256 ∷ bytes_from w v

-- the thirty-two bytes of a number
unfoldable pub bytes_of : ℕ → List ℕ
bytes_of v = bytes_from 32 v

-- a bit of bytes, counted from 0: the bytes in order, the highest bit of each first
abbrev pub bit_at : List ℕ → ℕ → Bool
bit_at bs k = slice_index bs (k / 8) / 2 ^ (7 - k % 8) % 2 == 1

-- the first n of the 256 bits of a number
abbrev pub first_bits : ℕ → ℕ → List Bool
first_bits v n = map (bit_at (bytes_of v)) (range_with_len 0 n)
