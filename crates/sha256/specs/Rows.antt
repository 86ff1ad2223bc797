-- The hash of a row of numbers: SHA-256 of its bytes, as a number. Assumes nothing: these are definitions.
use Rattle.std.specs.Prelude.{◌≡◌, ℕ, ◌^◌, ◌<◌, List}
use Rattle.std.specs.List.{flat_map}
use Rattle.hash.specs.Members.{In}
use Rattle.hash.specs.Mix.{Mix}
use Rattle.hash.specs.Value.{worth, bytes_of}
use Rattle.compression.specs.Fips180.{sha256}

-- the bytes of a row: each number's thirty-two, the highest first
abbrev pub row_bytes : List ℕ → List ℕ
row_bytes xs = flat_map bytes_of xs

-- the hash of a row: the thirty-two bytes of the digest as a number, the highest first
unfoldable pub row_hash : Mix
row_hash xs = worth (sha256 (row_bytes xs))

-- a row of numbers that thirty-two bytes can hold
abbrev pub BoundedRow : List ℕ → Type 0
BoundedRow xs = (x : ℕ) → In x xs → x < 2 ^ 256

-- rows of such numbers that are the same bytes are the same row
abbrev pub BytesTell : Type 0
BytesTell = (xs ys : List ℕ) → BoundedRow xs → BoundedRow ys → row_bytes xs ≡ row_bytes ys → xs ≡ ys
