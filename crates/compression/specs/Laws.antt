-- What holds of the padding. Assumes nothing: this is a statement, proved by a function whose contract it is.
use Rattle.std.specs.Prelude.{◌≡◌, ℕ, ◌+◌, ◌%◌, ◌≤◌}
use Rattle.compression.specs.Fips180.{zeros}

-- a message of n bytes, the byte of the bit 1, the zeros and the eight bytes of the length are whole blocks of 64 bytes, and with fewer zeros they are not
abbrev pub FewestZeros : Type 0
FewestZeros = (n : ℕ) → ((n + 1 + zeros n + 8) % 64 ≡ 0) × ((k : ℕ) → (n + 1 + k + 8) % 64 ≡ 0 → zeros n ≤ k)
