-- A message that is taken in piece by piece. Assumes nothing: these are definitions.
use Rattle.std.specs.Prelude.{◌≡◌, ℕ, ◌-◌, ◌*◌, ◌/◌, ◌%◌, ◌^◌, List, ◌++◌, length, drop, replicate}
use Rattle.compression.specs.Fips180.{hash_after}
use Rattle.sha256.specs.declared.stream.Sha256.{Sha256}

-- the bytes behind the last whole block of a message
abbrev pub tail : List ℕ → List ℕ
tail m = drop (64 * (length m / 64)) m

-- a hash value is the one after a message's whole blocks, and a block holds the bytes behind them, and zeros
abbrev pub Absorbed : (state block : List ℕ) → List ℕ → Type 0
Absorbed h b m = (h ≡ hash_after (length m / 64) m) × (b ≡ tail m ++ replicate (64 - length m % 64) 0)

-- a hasher has taken in the message m; it counts the bytes modulo 2^64
unfoldable pub Holds : Sha256 → List ℕ → Type 0
Holds s m = (s.length ≡ length m % 2 ^ 64) × Absorbed s.state s.block m
