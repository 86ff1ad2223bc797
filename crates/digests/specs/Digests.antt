-- The byte strings that are hashed where the hash is SHA-256, in making the signer's own tree and in looking at a signature, and where two of them have the same digest. Assumes nothing: these are definitions.
use Rattle.std.specs.Prelude.{◌≡◌, ℕ, Bool, List, ◌≢◌}
use Rattle.hash.specs.Members.{In}
use Rattle.compression.specs.Fips180.{sha256}
use Rattle.sha256.specs.Rows.{row_bytes, row_hash}
use Rattle.signatures.specs.Rows.{OwnRow, looked_rows}
use Rattle.signatures.specs.Signatures.{Signature}

-- the bytes of a row of R
abbrev pub BytesOf : (R : List ℕ → Type 0) → List ℕ → Type 0
BytesOf R a = (r : List ℕ) × R r × (a ≡ row_bytes r)

-- a byte string that is hashed in making the tree of l levels over keys of n bits from the seed s
abbrev pub HashedInTree : (bits seed levels : ℕ) → List ℕ → Type 0
HashedInTree n s l = BytesOf (OwnRow row_hash n s l)

-- a byte string that is hashed in looking at a signature
abbrev pub HashedInLooking : List Bool → Signature → List ℕ → Type 0
HashedInLooking bs g = BytesOf (λ r. In r (looked_rows row_hash bs g))

-- two different byte strings with the same SHA-256, one of A and one of B
abbrev pub TwoStrings : (A B : List ℕ → Type 0) → Type 0
TwoStrings A B = (a : List ℕ) × (b : List ℕ) × A a × B b × (a ≢ b) × (sha256 a ≡ sha256 b)

-- one that is hashed in looking at this signature, and one in the signer's own tree
abbrev pub LocatedStrings : (bits seed levels : ℕ) → List Bool → Signature → Type 0
LocatedStrings n s l bs g = TwoStrings (HashedInLooking bs g) (HashedInTree n s l)
