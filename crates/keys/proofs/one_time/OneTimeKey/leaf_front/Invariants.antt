-- The row so far: all that is shown of the eights before this one.
use Rattle.std.proofs.Common.{◌*◌}
use Rattle.hash.specs.Value.{value_of}
use Rattle.keys.specs.Keys.{leaf_row}
use Rattle.keys.proofs.one_time.OneTimeKey.leaf_front.Given as goal

abbrev pub invariant-loop-i : goal.invariant-loop-i
invariant-loop-i g l = g.H.RowHasher.holds l.hasher (leaf_row g.H.RowHasher.mix (8 * l.i) (value_of l.self.secrets.now.seed) l.self.index)
