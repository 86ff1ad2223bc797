-- How bytes are written in sixteens, by the codes of ASCII. Assumes nothing: these are definitions.
use Rattle.std.specs.Prelude.{ℕ, ◌+◌, ◌/◌, ◌%◌, if◌then◌else◌, List, [], ◌∷◌, nat_lt}
use Rattle.std.specs.List.{flat_map}

-- a digit in sixteens: 0-9, a-f
abbrev pub hex_digit : ℕ → ℕ
hex_digit d = if nat_lt d 10 then 48 + d else 87 + d

-- a byte: two digits, the higher first
abbrev pub hex_byte : ℕ → List ℕ
hex_byte b = hex_digit (b / 16) ∷ hex_digit (b % 16) ∷ []

-- bytes in sixteens, one after the other
abbrev pub hex : List ℕ → List ℕ
hex bs = flat_map hex_byte bs
