-- What holds of every number. Assumes nothing: these are statements, each proved by a function whose contract it is.
use Rattle.std.specs.Prelude.{◌≡◌, ◌^◌, ◌<◌}
use Rattle.hash.specs.Value.{value_of, bytes_of}
use Rattle.hash.specs.declared.number.Number.{Number}

abbrev pub Bounded : Type 0
Bounded = (n : Number) → value_of n < 2 ^ 256

-- a number's bytes are those of its meaning, so numbers that mean the same are the same bytes
abbrev pub BytesBack : Type 0
BytesBack = (n : Number) → n.bytes ≡ bytes_of (value_of n)
