-- The row so far: the tag, and the numbers before this one.
use Rattle.std.proofs.Common.{◌∷◌, map, take}
use Rattle.hash.specs.Tag.{tag}
use Rattle.hash.specs.Value.{value_of}
use Rattle.hash.proofs.row.RowHasher.hash.Given as goal

abbrev pub invariant-loop-x : goal.invariant-loop-x
invariant-loop-x g l = g.Self.RowHasher.holds l.hasher (tag l.fn.purpose ∷ map value_of (take l.x-index l.numbers))
