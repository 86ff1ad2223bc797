-- What a signature is, and when it is accepted. For every hash h, and for any number of bits and levels. Assumes nothing: these are definitions.
use Rattle.std.specs.Prelude.{◌≡◌, ℕ, suc, Bool, true, false, not, ◌&&◌, List, [], ◌∷◌, ◌++◌, length, ◌==◌, nat_lt}
use Rattle.hash.specs.Mix.{Mix}
use Rattle.keys.specs.Keys.{secret, shown}
use Rattle.tree.specs.Tree.{power, path_from, up}

-- a signature: which key; for each bit its secret number, and what is shown of the other one; and the authentication path
pub record Signature : Type 0 where
  pub key : ℕ
  pub parts : List ℕ
  pub others : List ℕ
  pub path : List ℕ

-- one with no numbers
abbrev pub blank : Signature
blank = record { key = 0; parts = []; others = []; path = [] }

-- every number of a signature
abbrev pub numbers : Signature → List ℕ
numbers g = g.parts ++ (g.others ++ g.path)

-- a signature by key i for n bits lies in a row of numbers: they are all of its numbers, in their order
abbrev pub LiesIn : (i n : ℕ) → List ℕ → Signature → Type 0
LiesIn i n vs g = (g.key ≡ i) × (length g.parts ≡ n) × (length g.others ≡ n) × (numbers g ≡ vs)

-- a number for each bit, by the bit and its place, from place j on
unfoldable pub each_from : (ℕ → Bool → ℕ) → ℕ → List Bool → List ℕ
each_from f j [] = []
each_from f j (b ∷ bs) = f j b ∷ each_from f (suc j) bs

-- the secret numbers of key i for bits, from bit j on
abbrev pub parts_from : Mix → (seed i j : ℕ) → List Bool → List ℕ
parts_from h s i j bs = each_from (secret h s i) j bs

-- what is shown of the other secret numbers, those of the opposite bits
abbrev pub others_from : Mix → (seed i j : ℕ) → List Bool → List ℕ
others_from h s i j bs = each_from (λ k b. shown h (secret h s i k (not b))) j bs

-- the signature of a row of bits by key i
unfoldable pub signed : Mix → (seed levels : ℕ) → ℕ → List Bool → Signature
signed h s l i bs =
    record { key = i; parts = parts_from h s i 0 bs; others = others_from h s i 0 bs; path = path_from h (length bs) s 0 l i }

-- what is shown for one bit, that for 0 before that for 1, from what is shown for the bit itself and for the opposite one
abbrev pub in_order : Bool → (own other : ℕ) → List ℕ
in_order true v o = o ∷ v ∷ []
in_order false v o = v ∷ o ∷ []

-- what is shown of a key, as a signature has it: of each bit's two, one is worked out of the secret number and the other is there
unfoldable pub shown_of : Mix → List Bool → (parts others : List ℕ) → List ℕ
shown_of h [] ps os = []
shown_of h (b ∷ bs) [] os = []
shown_of h (b ∷ bs) (p ∷ ps) [] = []
shown_of h (b ∷ bs) (p ∷ ps) (o ∷ os) = in_order b (shown h p) o ++ shown_of h bs ps os

-- the row of the leaf, as a signature has it
abbrev pub leaf_row_of : Mix → List Bool → (parts others : List ℕ) → List ℕ
leaf_row_of h bs ps os = 2 ∷ shown_of h bs ps os

-- accepted, for a root of so many levels and a row of bits: the key is one of the tree's, there are as many numbers as there should be, and the walk up from the leaf comes to the root
unfoldable pub accepted : Mix → (root levels : ℕ) → List Bool → Signature → Bool
accepted h r l bs g =
    nat_lt g.key (power l)
    && (length g.parts == length bs
    && (length g.others == length bs
    && (length g.path == l
    && up h g.path g.key (h (leaf_row_of h bs g.parts g.others)) == r)))
