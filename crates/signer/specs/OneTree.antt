-- The promises over one tree, at which any number of bits is signed, with no place for the two rows. Where a hash has a largest value, as SHA-256 has, two such rows exist whatever is signed, so that `OwnOrCollision` and `MustKnow` say little of it; `OwnOrLocated` and `MustKnowLocated` say which rows they are. Assumes nothing.
use Rattle.std.specs.Prelude.{◌≡◌, ℕ, ◌+◌, ◌<◌, ◌≤◌, Bool, true, false, ◌⊎◌, List, [], ◌∷◌, length, ◌≢◌, slice_index, slice_index_or}
use Rattle.hash.specs.Mix.{Mix}
use Rattle.keys.specs.Keys.{secret}
use Rattle.tree.specs.Tree.{node}
use Rattle.signatures.specs.Signatures.{Signature, parts_from, signed, accepted}
use Rattle.counter.specs.Store.{next, reserved, sound, step, gives}

-- two different rows with the same hash
abbrev pub Collision : Mix → Type 0
Collision h = (a : List ℕ) × (b : List ℕ) × (a ≢ b) × (h a ≡ h b)

abbrev pub OwnOrCollision : Type 0
OwnOrCollision =
    (h : Mix) (s l n k : ℕ) (bs : List Bool) (g : Signature) → accepted h (node h n s l 0) k bs g ≡ true →
    ((n ≡ length bs) × (k ≡ l) × (g ≡ signed h s l g.key bs)) ⊎ Collision h

-- a request to sign bits, with power for so many writes
pub data Asked : Type 0 where
  sign : List Bool → (lasts : ℕ) → Asked

-- key i is given for the bits b in a run of requests to one tree
abbrev pub KeyGiven : (levels : ℕ) → List ℕ → List Asked → ℕ → List Bool → Type 0
KeyGiven l m [] i b = ⊥
KeyGiven l m (sign c n ∷ xs) i b = ((gives l m n ≡ true) × (next m ≡ i) × (c ≡ b)) ⊎ KeyGiven l (step l m n) xs i b

abbrev pub NeverTwice : Type 0
NeverTwice =
    (l : ℕ) (m : List ℕ) (xs : List Asked) (i : ℕ) (b c : List Bool) → sound m ≡ true →
    KeyGiven l m xs i b → KeyGiven l m xs i c → b ≡ c

-- a store that is sound stays so wherever power fails, and the next key never gets smaller
abbrev pub StaysSound : Type 0
StaysSound =
    (m : List ℕ) (n : ℕ) → sound m ≡ true →
    (sound (reserved n m) ≡ true) × (next m ≤ next (reserved n m)) × (2 ≤ n → next (reserved n m) ≡ next m + 1)

-- a secret number that was given out in a run
abbrev pub GivenNumber : (levels : ℕ) → Mix → (seed : ℕ) → List ℕ → List Asked → ℕ → Type 0
GivenNumber l h s m xs v =
    (i : ℕ) × (b : List Bool) × (j : ℕ) × (j < length b) × KeyGiven l m xs i b × (v ≡ slice_index (parts_from h s i 0 b) j)

-- who shows another row of bits accepted has a secret number that was never given out
abbrev pub MustKnow : Type 0
MustKnow =
    (h : Mix) (s l n : ℕ) (m : List ℕ) (xs : List Asked) (bs : List Bool) (g : Signature) → sound m ≡ true →
    1 ≤ n → ((i : ℕ) (b : List Bool) → KeyGiven l m xs i b → length b ≡ n) →
    accepted h (node h n s l 0) l bs g ≡ true → (KeyGiven l m xs g.key bs → ⊥) →
    ((j : ℕ) × (j < n) × (slice_index g.parts j ≡ secret h s g.key j (slice_index_or bs j false)) × (GivenNumber l h s m xs (slice_index g.parts j) → ⊥)) ⊎ Collision h
