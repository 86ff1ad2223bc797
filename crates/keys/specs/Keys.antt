-- One-time keys: their secret numbers, what is shown of them, and a key's leaf. For every hash h, and for keys of any number of bits. Assumes nothing: these are definitions.
use Rattle.std.specs.Prelude.{ℕ, zero, suc, Bool, true, false, List, [], ◌∷◌}
use Rattle.hash.specs.Mix.{Mix}

abbrev pub bit : Bool → ℕ
bit true = 1
bit false = 0

-- the rows that are hashed, each beginning with the number that says what it is for: 0 for a secret number, 1 for what is shown of one, 2 for a leaf
abbrev pub secret_row : (seed i j : ℕ) → Bool → List ℕ
secret_row s i j b = 0 ∷ s ∷ i ∷ j ∷ bit b ∷ []

abbrev pub shown_row : ℕ → List ℕ
shown_row x = 1 ∷ x ∷ []

-- the secret number of key i for bit j being b
unfoldable pub secret : Mix → (seed i j : ℕ) → Bool → ℕ
secret h s i j b = h (secret_row s i j b)

-- what is shown of a secret number
unfoldable pub shown : Mix → ℕ → ℕ
shown h x = h (shown_row x)

-- all that is shown of key i for n bits from bit j on: bit by bit, that for 0 before that for 1
unfoldable pub shown_all : Mix → (seed i j n : ℕ) → List ℕ
shown_all h s i j zero = []
shown_all h s i j (suc n) = shown h (secret h s i j false) ∷ shown h (secret h s i j true) ∷ shown_all h s i (suc j) n

abbrev pub leaf_row : Mix → (bits seed i : ℕ) → List ℕ
leaf_row h n s i = 2 ∷ shown_all h s i 0 n

-- the leaf of key i: the hash of all that is shown of it
unfoldable pub leaf : Mix → (bits seed i : ℕ) → ℕ
leaf h n s i = h (leaf_row h n s i)
