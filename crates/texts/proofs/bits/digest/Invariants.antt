-- The row so far: the bytes before this one.
use Rattle.std.proofs.Common.{◌∷◌, take}
use Rattle.texts.proofs.bits.digest.Given as goal

abbrev pub invariant-loop-byte : goal.invariant-loop-byte
invariant-loop-byte g l = g.H.RowHasher.holds l.hasher (4 ∷ take l.byte-index l.text)
