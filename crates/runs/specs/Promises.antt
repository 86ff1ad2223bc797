-- What is promised of the turns of any run, in words of what was typed and what was printed. Assumes nothing: these are definitions.
use Rattle.std.specs.Prelude.{◌≡◌, ℕ, ◌^◌, ◌≤◌, ◌<◌, Bool, true, ◌⊎◌, All, List, ◌∷◌, ◌++◌, Some, codes}
use Rattle.hash.specs.Hex.{hex}
use Rattle.hash.specs.Value.{bytes_of, value_of}
use Rattle.sha256.specs.Rows.{row_hash}
use Rattle.keys.specs.Refusals.{tree_refusal}
use Rattle.tree.specs.Tree.{node}
use Rattle.tree.specs.declared.own.Tree.{Tree}
use Rattle.signatures.specs.Lines.{signature_text}
use Rattle.signatures.specs.Signatures.{Signature, signed, accepted}
use Rattle.counter.specs.Cells.{DiskState, Found}
use Rattle.counter.specs.Store.{next, sound}
use Rattle.signer.specs.Promises.{Own}
use Rattle.digests.specs.Digests.{LocatedStrings}
use Rattle.texts.specs.Bits.{bits_of_text}
use Rattle.texts.specs.Commands.{LevelsSpelled, StoreSpelled}
use Rattle.texts.specs.SignatureLines.{KeySpelled, AreSignature, Fits}
use Rattle.sessions.specs.Sessions.{refusal_or}
use Rattle.runs.specs.Turns.{Turn}

-- the first line of a turn
abbrev pub Begins : Turn → List ℕ → Type 0
Begins t line = (behind : List (List ℕ)) × (t.typed ≡ line ∷ behind)

-- a turn is a `store` line
abbrev pub IsStore : Turn → Type 0
IsStore t = (rest : List ℕ) × (vs : List ℕ) × Begins t (codes "store" ++ rest) × StoreSpelled rest vs

-- a turn is a `levels` line with these levels, bits and seed
abbrev pub IsLevels : Turn → (levels bits seed : ℕ) → Type 0
IsLevels t l n seed =
    (rest : List ℕ) × (v : Tree) × Begins t (codes "levels " ++ rest) × LevelsSpelled rest v × (v.signer.levels ≡ l) × (v.bits ≡ n) × (value_of v.signer.seed ≡ seed)

-- no turn of these is a `levels` line
abbrev pub NoLevels : List Turn → Type 0
NoLevels ts = All (λ t. (l n seed : ℕ) → IsLevels t l n seed → ⊥) ts

-- the levels, bits and seed that are asked with after these turns: those of the last `levels` line, or else 0, 0 and 0
abbrev pub AskedWith : List Turn → (levels bits seed : ℕ) → Type 0
AskedWith ts l n seed =
    ((before after : List Turn) × (t : Turn) × (ts ≡ before ++ (t ∷ after)) × IsLevels t l n seed × NoLevels after)
    ⊎ (NoLevels ts × (l ≡ 0) × (n ≡ 0) × (seed ≡ 0))

-- a turn prints a signature by key k: the first line of what is printed is `key` and k
abbrev pub PrintsKey : Turn → ℕ → Type 0
PrintsKey t k = (line : List ℕ) × (rest : List ℕ) × (t.printed ≡ Some (line ++ (10 ∷ rest))) × KeySpelled line k

-- no key is printed twice: of two keys that are printed the later is the larger. Where the store is in memory, a `store` line replaces it, and this holds between two of them
abbrev pub KeysRise : (in_memory : Bool) → List Turn → Type 0
KeysRise b ts =
    (before between after : List Turn) (t u : Turn) (j k : ℕ) → ts ≡ before ++ (t ∷ (between ++ (u ∷ after))) → All (λ x. b ≡ true → IsStore x → ⊥) between →
    PrintsKey t j → PrintsKey u k → j < k

-- each key that is printed is at least a, and below z
abbrev pub KeysWithin : List Turn → (a z : ℕ) → Type 0
KeysWithin ts a z = (before after : List Turn) (t : Turn) (k : ℕ) → ts ≡ before ++ (t ∷ after) → PrintsKey t k → (a ≤ k) × (k < z)

-- whatever may be found of the disk afterwards, of a store that began as m: it is sound, its next key is no smaller, and each key that was printed is below it, and none was given before
abbrev pub KeptBy : (first : List ℕ) → List Turn → DiskState → Type 0
KeptBy m ts d = (m₁ : List ℕ) → Found d m₁ → (sound m₁ ≡ true) × (next m ≤ next m₁) × KeysWithin ts (next m) (next m₁)

-- a turn is a `sign` line, and prints the signature of its text by key k, of the signer with these levels, bits and seed; it is accepted for the text and that signer's root
abbrev pub SignsText : Turn → (levels bits seed key : ℕ) → Type 0
SignsText t l n seed k =
    (text : List ℕ) × Begins t (codes "sign " ++ text) × (t.printed ≡ Some (signature_text (signed row_hash seed l k (bits_of_text row_hash text n))))
    × (accepted row_hash (node row_hash n seed l 0) l (bits_of_text row_hash text n) (signed row_hash seed l k (bits_of_text row_hash text n)) ≡ true)

-- each signature that is printed answers a `sign` line, is the signer's own by the key that it names, and is accepted for its text and the root of the levels, bits and seed that were asked with
abbrev pub SignaturesAccepted : List Turn → Type 0
SignaturesAccepted ts =
    (before after : List Turn) (t : Turn) (k : ℕ) → ts ≡ before ++ (t ∷ after) → PrintsKey t k →
    (l : ℕ) × (n : ℕ) × (seed : ℕ) × AskedWith before l n seed × SignsText t l n seed k

-- a turn is a `look` line with a root and a text, and behind it the lines of a signature that is, of every signer whose root this is, the signer's own for just these bits; or two byte strings differ and have the same SHA-256, one hashed in looking at it and one in the signer's own tree
abbrev pub LooksAtOwn : Turn → (levels bits : ℕ) → Type 0
LooksAtOwn t k n =
    (root : ℕ) × (text : List ℕ) × (behind : List (List ℕ)) × (g : Signature) × (root < 2 ^ 256)
    × (t.typed ≡ (codes "look " ++ (hex (bytes_of root) ++ (codes " " ++ text))) ∷ behind) × AreSignature behind g × Fits g
    × ((s l m : ℕ) → root ≡ node row_hash m s l 0 → Own row_hash s l m k (bits_of_text row_hash text n) g ⊎ LocatedStrings m s l (bits_of_text row_hash text n) g)

-- where `accepted` is printed, it answers such a turn, with the levels and bits that were asked with
abbrev pub LookedOwn : List Turn → Type 0
LookedOwn ts =
    (before after : List Turn) (t : Turn) → ts ≡ before ++ (t ∷ after) → t.printed ≡ Some (codes "accepted") →
    (l : ℕ) × (n : ℕ) × (seed : ℕ) × AskedWith before l n seed × LooksAtOwn t l n

-- what answers a `root` line is that root, or a refusal where there is none
abbrev pub RootsPrinted : List Turn → Type 0
RootsPrinted ts =
    (before after : List Turn) (t : Turn) → ts ≡ before ++ (t ∷ after) → Begins t (codes "root") →
    (l : ℕ) × (n : ℕ) × (seed : ℕ) × AskedWith before l n seed × (t.printed ≡ Some (refusal_or (tree_refusal l n) (hex (bytes_of (node row_hash n seed l 0)))))

-- all of it
pub record Promised (b : Bool) (ts : List Turn) : Type 0 where
  pub keys_rise : KeysRise b ts
  pub signatures_accepted : SignaturesAccepted ts
  pub looked_own : LookedOwn ts
  pub roots_printed : RootsPrinted ts
