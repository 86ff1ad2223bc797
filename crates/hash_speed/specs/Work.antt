-- The work that is asked for. Assumes nothing: these are definitions.
use Rattle.std.specs.Prelude.{◌≡◌, ℕ, zero, suc, ◌+◌, ◌/◌, ◌%◌, ◌==◌, Bool, true, false, if◌then◌else◌, List, [], ◌++◌, take, replicate, slice_set}
use Rattle.hash.specs.Mix.{Mix}
use Rattle.keys.specs.Keys.{bit}
use Rattle.tree.specs.Tree.{node}
use Rattle.signatures.specs.Signatures.{signed, accepted}
use Rattle.compression.specs.Fips180.{H₀, compressed}

-- a buffer n times, behind each other
unfoldable pub copies : ℕ → List ℕ → List ℕ
copies zero b = []
copies (suc n) b = copies n b ++ b

-- the first n bytes of a buffer of 4096 that is taken again and again
abbrev pub cycled : ℕ → List ℕ → List ℕ
cycled n b = copies (n / 4096) b ++ take (n % 4096) b

-- the hash value after compressing a block n times
unfoldable pub after_blocks : ℕ → List ℕ → List ℕ
after_blocks zero b = H₀
after_blocks (suc n) b = compressed (after_blocks n b) b

-- the row of bits that look n is for: one and the other in turn
abbrev pub row_of : (one other : List Bool) → ℕ → List Bool
row_of one other n = if n % 2 == 0 then one else other

-- how many of the first n looks accept
unfoldable pub taken_of : (List Bool → Bool) → (one other : List Bool) → ℕ → ℕ
taken_of accepts one other zero = 0
taken_of accepts one other (suc n) = taken_of accepts one other n + bit (accepts (row_of one other n))

-- the bits that are signed, and others
abbrev pub all_set : List Bool
all_set = replicate 256 true

abbrev pub last_not_set : List Bool
last_not_set = slice_set all_set 255 false

-- the root of a tree, and how many of so many looks accept its signature of the first of these
abbrev pub Looked : Mix → (count root taken : ℕ) → Type 0
Looked h n r t = (r ≡ node h 256 17 10 0) × (t ≡ taken_of (λ bs. accepted h r 10 bs (signed h 17 10 0 all_set)) all_set last_not_set n)
