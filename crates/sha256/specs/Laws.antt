-- What holds of every digest, and of every row's hash. Assumes nothing: these are statements, each proved by a function whose contract it is.
use Rattle.std.specs.Prelude.{◌≡◌, ℕ, ◌^◌, ◌<◌, List, length, slice_index}
use Rattle.compression.specs.Fips180.{sha256}
use Rattle.sha256.specs.Rows.{row_bytes, row_hash}

-- thirty-two bytes
abbrev pub IsDigest : List ℕ → Type 0
IsDigest bs = (length bs ≡ 32) × ((i : ℕ) → slice_index bs i < 256)

-- what SHA-256 gives is thirty-two bytes
abbrev pub GivesDigests : Type 0
GivesDigests = (m : List ℕ) → IsDigest (sha256 m)

-- so the hash of a row is a number below 2^256
abbrev pub HashBelow : Type 0
HashBelow = (xs : List ℕ) → row_hash xs < 2 ^ 256

-- and rows with the same hash have the same digest
abbrev pub HashTells : Type 0
HashTells = (xs ys : List ℕ) → row_hash xs ≡ row_hash ys → sha256 (row_bytes xs) ≡ sha256 (row_bytes ys)
