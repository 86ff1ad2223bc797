-- Words, each after one space. Assumes nothing: these are definitions.
use Rattle.std.specs.Prelude.{◌≡◌, ℕ, ◌<◌, ◌≤◌, List, ◌∷◌, ◌++◌, length, take, decimal, slice_index}
use Rattle.hash.specs.Hex.{hex}
use Rattle.hash.specs.declared.number.Number.{Number}
use Rattle.reading.specs.Spelling.{WordEnd}
use Rattle.std.specs.List.{flat_map, AllZip}
use Rattle.std.specs.Str.Iter.{LacksByte}

-- nothing, or what begins with a space: what stands behind a whole word
abbrev pub Stops : List ℕ → Type 0
Stops cs = 0 < length cs → slice_index cs 0 ≡ 32

-- a text begins with a space and a word that spells a value, and this is the rest
pub record FirstWord {V : Type 0} (spells : List ℕ → V → Type 0) (cs w : List ℕ) (v : V) (rest : List ℕ) : Type 0 where
  pub text : cs ≡ 32 ∷ (w ++ rest)
  pub whole : LacksByte 32 w
  pub stops : Stops rest
  pub spelled : spells w v

-- a text may be cut here behind the word that it begins with: what is cut off spells a value only if it is that word, and if the word spells one, it is cut off
pub record CutsAt {V : Type 0} (spells : List ℕ → V → Type 0) (cs : List ℕ) (r : ℕ) : Type 0 where
  pub within : r ≤ length cs
  pub whole : (v : V) → spells (take r cs) v → WordEnd cs r
  pub only : (s : ℕ) (v : V) → WordEnd cs s → spells (take s cs) v → r ≡ s

-- a text begins with a space and a word that spells a value
abbrev pub Begins : {V : Type 0} → (spells : List ℕ → V → Type 0) → List ℕ → Type 0
Begins {V = V} spells cs = (w : List ℕ) × (v : V) × (rest : List ℕ) × FirstWord spells cs w v rest

-- a line begins with a word and, behind one space, a number in sixteens
abbrev pub NumbersBegin : (word line : List ℕ) → Type 0
NumbersBegin word line = (rest : List ℕ) × (line ≡ word ++ rest) × Begins (λ w (n : Number). w ≡ hex n.bytes) rest

-- a text is words with no space in them, each after one space, and they spell these values
abbrev pub SpacedWords : {V : Type 0} → (spells : List ℕ → V → Type 0) → List ℕ → List V → Type 0
SpacedWords spells cs vs = (ws : List (List ℕ)) × (cs ≡ flat_map (λ w. 32 ∷ w) ws) × AllZip (λ w v. LacksByte 32 w × spells w v) ws vs

-- a word, and each number in decimal after one space
abbrev pub counts_line : List ℕ → List ℕ → List ℕ
counts_line word vs = word ++ flat_map (λ v. 32 ∷ decimal v) vs
