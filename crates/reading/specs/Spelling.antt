-- How numbers are written, by the codes of ASCII. Assumes nothing: these are definitions.
use Rattle.std.specs.Prelude.{◌≡◌, ℕ, ◌-◌, ◌<◌, ◌≤◌, Bool, true, if◌then◌else◌, ◌&&◌, List, [], ◌∷◌, map, length, Some, None, Option, ◌≢◌, nat_le, nat_lt, slice_index}
use Rattle.std.specs.Int.Digits.{number_from_digits}

-- where the first word of a text ends: at the first space, or with the text
pub record WordEnd (cs : List ℕ) (r : ℕ) : Type 0 where
  pub within : r ≤ length cs
  pub before : (k : ℕ) → k < r → slice_index cs k ≢ 32
  pub found : r < length cs → slice_index cs r ≡ 32

-- one of 0-9, and a text of these alone
abbrev pub is_digit : ℕ → Bool
is_digit c = nat_le 48 c && nat_le c 57

abbrev pub all_digits : List ℕ → Bool
all_digits [] = true
all_digits (c ∷ cs) = is_digit c && all_digits cs

-- the number that digits write
abbrev pub digits_value : List ℕ → ℕ
digits_value cs = number_from_digits 10 (map (λ c. c - 48) cs)

-- the number that a text is in decimal, if it is one or more digits and below the limit
abbrev pub decimal_of : ℕ → List ℕ → Option ℕ
decimal_of limit cs = if nat_lt 0 (length cs) && (all_digits cs && nat_lt (digits_value cs) limit) then Some (digits_value cs) else None

-- digits with no 0 in front, but for 0 itself
abbrev pub Plain : List ℕ → Type 0
Plain ds = slice_index ds 0 ≡ 48 → length ds ≡ 1
