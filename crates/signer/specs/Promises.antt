-- What is promised, for every hash. Each is a statement; a function of this crate has it as its contract, and so it is proved. Assumes nothing.
use Rattle.std.specs.Prelude.{◌≡◌, ℕ, ◌<◌, ◌≤◌, Bool, true, false, ◌⊎◌, List, map, length, ◌≢◌, slice_index, slice_index_or}
use Rattle.hash.specs.Members.{In, Rising}
use Rattle.hash.specs.Mix.{Mix}
use Rattle.keys.specs.Keys.{secret}
use Rattle.tree.specs.Tree.{power, node}
use Rattle.signatures.specs.Signatures.{Signature, numbers, signed, accepted}
use Rattle.signatures.specs.Rows.{OwnRow, looked_rows, CollisionOf, LocatedCollision}
use Rattle.counter.specs.Answers.{reserve_answer, reserve_stored}
use Rattle.signer.specs.Answers.{answer, stored}
use Rattle.signer.specs.Runs.{Request, Issued, given, signature_given}

-- what the signer signs is accepted
abbrev pub OwnAccepted : Type 0
OwnAccepted =
    (h : Mix) (s l i : ℕ) (bs : List Bool) → i < power l → accepted h (node h (length bs) s l 0) l bs (signed h s l i bs) ≡ true

-- a signature that was looked at with k levels is, of the signer with seed s, l levels and n bits, its own for just these bits, by the key that it names
abbrev pub Own : (h : Mix) (s l n k : ℕ) → List Bool → Signature → Type 0
Own h s l n k bs g = (n ≡ length bs) × (k ≡ l) × (g ≡ signed h s l g.key bs)

-- what is accepted, for a root of the signer's and any number of levels and bits, is its own, or a row that looking at it hashes and a row of the signer's own tree differ and hash to the same
abbrev pub OwnOrLocated : Type 0
OwnOrLocated =
    (h : Mix) (s l n k : ℕ) (bs : List Bool) (g : Signature) → accepted h (node h n s l 0) k bs g ≡ true →
    Own h s l n k bs g ⊎ LocatedCollision h n s l bs g

-- whatever is asked, with whatever levels, bits and power, from any store: the keys that are given rise
abbrev pub KeysRise : Type 0
KeysRise = (m : List ℕ) (qs : List Request) → Rising (map (λ a. a.key) (given m qs))

-- so no key signs two rows of bits
abbrev pub OneRow : Type 0
OneRow = (m : List ℕ) (qs : List Request) (a b : Issued) → In a (given m qs) → In b (given m qs) → a.key ≡ b.key → a.request.bits ≡ b.request.bits

-- a key that is asked for alone is given, and leaves the store, as if one bit were signed: so the keys of such requests rise with the others, and sign nothing else
abbrev pub ReserveAsSign : Type 0
ReserveAsSign = (l w : ℕ) (m : List ℕ) → (reserve_answer l m w ≡ answer l m 1 w) × (reserve_stored l m w ≡ stored l m 1 w)

-- whoever shows an accepted signature that its key did not give has, in it, a secret number of the signer's that no signature given out in the run holds among its numbers; or two rows hash to the same, one of the signer's own tree and one that looking hashes or that is the signer's too. The signer is one tree: all that it gave is for l levels and n bits
abbrev pub MustKnowLocated : Type 0
MustKnowLocated =
    (h : Mix) (s l n k : ℕ) (m : List ℕ) (qs : List Request) (bs : List Bool) (g : Signature) → 1 ≤ n →
    ((a : Issued) → In a (given m qs) → (a.request.levels ≡ l) × (length a.request.bits ≡ n)) → accepted h (node h n s l 0) k bs g ≡ true →
    ((a : Issued) → In a (given m qs) → a.key ≡ g.key → a.request.bits ≢ bs) →
    ((j : ℕ) × (j < n) × (slice_index g.parts j ≡ secret h s g.key j (slice_index_or bs j false))
    × ((a : Issued) → In a (given m qs) → In (slice_index g.parts j) (numbers (signature_given h s a)) → ⊥))
    ⊎ CollisionOf h (λ r. In r (looked_rows h bs g) ⊎ OwnRow h n s l r) (OwnRow h n s l)
