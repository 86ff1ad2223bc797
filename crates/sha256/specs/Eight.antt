-- Rows that are hashed side by side. Assumes nothing: these are definitions.
use Rattle.std.specs.Prelude.{◌≡◌, ℕ, ◌%◌, ◌/◌, List, length}
use Rattle.compression.specs.Fips180.{padded, hash_after}
use Rattle.sha256.specs.Rows.{row_bytes}
use Rattle.sha256.specs.Streams.{Holds}
use Rattle.sha256.specs.declared.rows.RowSha256.{RowSha256}

-- a hasher has taken in the row
abbrev pub RowHeld : RowSha256 → List ℕ → Type 0
RowHeld s row = Holds s.hasher (row_bytes row)

-- a number more fills its block
abbrev pub HalfFull : RowSha256 → Type 0
HalfFull s = s.hasher.length % 64 ≡ 32

-- the hash value after all blocks of a message with its padding
abbrev pub last_value : List ℕ → List ℕ
last_value m = hash_after (length (padded m) / 64) (padded m)

-- the same of a row's bytes
abbrev pub row_value : List ℕ → List ℕ
row_value row = last_value (row_bytes row)
