-- The limits of a signer. Assumes nothing: these are definitions; the constants of the type Signer are tied to them by contracts.
use Rattle.std.specs.Prelude.{ℕ}

-- the most levels of a tree, and the most bits of a key
abbrev pub max_levels : ℕ
max_levels = 20

abbrev pub max_bits : ℕ
max_bits = 256
