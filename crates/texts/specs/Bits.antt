-- The bits of a text that are signed. For every hash h. Assumes nothing: these are definitions.
use Rattle.std.specs.Prelude.{ℕ, min, Bool, List, ◌∷◌}
use Rattle.hash.specs.Mix.{Mix}
use Rattle.hash.specs.Value.{first_bits}

-- the row of a text: 4, which says what it is for, and its bytes, one number for each
abbrev pub text_row : List ℕ → List ℕ
text_row t = 4 ∷ t

-- the first n of the 256 bits of its hash, or all of them
abbrev pub bits_of_text : Mix → List ℕ → ℕ → List Bool
bits_of_text h t n = first_bits (h (text_row t)) (min n 256)
