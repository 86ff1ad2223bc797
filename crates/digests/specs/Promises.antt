-- What is promised where the hash is SHA-256. Each is a statement; a function of this crate has it as its contract, and so it is proved. Of a signature that is looked at it is assumed that its numbers are below 2^256, as those of the program are: a larger one has the bytes of a smaller one. Of the signer nothing is assumed, but where its rows are said to be rows of such numbers.
use Rattle.std.specs.Prelude.{◌≡◌, ℕ, ◌^◌, ◌<◌, ◌≤◌, Bool, true, false, ◌⊎◌, List, length, ◌≢◌, slice_index, slice_index_or}
use Rattle.hash.specs.Members.{In}
use Rattle.sha256.specs.Rows.{row_hash, BoundedRow}
use Rattle.keys.specs.Keys.{secret}
use Rattle.tree.specs.Tree.{power, node}
use Rattle.signatures.specs.Rows.{OwnRow, looked_rows}
use Rattle.signatures.specs.Signatures.{Signature, numbers, accepted}
use Rattle.signer.specs.Promises.{Own}
use Rattle.signer.specs.Runs.{Request, Issued, given, signature_given}
use Rattle.digests.specs.Digests.{HashedInTree, HashedInLooking, TwoStrings, LocatedStrings}

-- the rows that the signer's tree hashes are rows of numbers below 2^256, where its seed and the numbers of its keys and bits are
abbrev pub OwnRowsBounded : Type 0
OwnRowsBounded = (n s l : ℕ) (r : List ℕ) → s < 2 ^ 256 → power l ≤ 2 ^ 256 → n ≤ 2 ^ 256 → OwnRow row_hash n s l r → BoundedRow r

-- so are those that looking at a signature hashes, where its numbers are
abbrev pub LookedRowsBounded : Type 0
LookedRowsBounded = (bs : List Bool) (g : Signature) (r : List ℕ) → BoundedRow (numbers g) → In r (looked_rows row_hash bs g) → BoundedRow r

-- what is accepted, for a root of the signer's and any number of levels and bits, is its own, or two byte strings differ and have the same SHA-256, one hashed in looking at it and one in the signer's own tree
abbrev pub OwnOrStrings : Type 0
OwnOrStrings =
    (s l n k : ℕ) (bs : List Bool) (g : Signature) → BoundedRow (numbers g) → accepted row_hash (node row_hash n s l 0) k bs g ≡ true →
    Own row_hash s l n k bs g ⊎ LocatedStrings n s l bs g

-- whoever shows an accepted signature that its key did not give has, in it, a secret number of the signer's that no signature given out in the run holds among its numbers; or two byte strings differ and have the same SHA-256, one hashed in the signer's own tree and one in looking or in that tree, too. The signer is one tree: all that it gave is for l levels and n bits
abbrev pub MustKnowStrings : Type 0
MustKnowStrings =
    (s l n k : ℕ) (m : List ℕ) (qs : List Request) (bs : List Bool) (g : Signature) → BoundedRow (numbers g) → 1 ≤ n →
    ((a : Issued) → In a (given m qs) → (a.request.levels ≡ l) × (length a.request.bits ≡ n)) → accepted row_hash (node row_hash n s l 0) k bs g ≡ true →
    ((a : Issued) → In a (given m qs) → a.key ≡ g.key → a.request.bits ≢ bs) →
    ((j : ℕ) × (j < n) × (slice_index g.parts j ≡ secret row_hash s g.key j (slice_index_or bs j false))
    × ((a : Issued) → In a (given m qs) → In (slice_index g.parts j) (numbers (signature_given row_hash s a)) → ⊥))
    ⊎ TwoStrings (λ a. HashedInLooking bs g a ⊎ HashedInTree n s l a) (HashedInTree n s l)
