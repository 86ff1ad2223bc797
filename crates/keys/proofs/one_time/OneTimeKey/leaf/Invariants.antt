-- The row so far: all that is shown of the bits before this one.
use Rattle.std.proofs.Common.{◌∷◌}
use Rattle.hash.specs.Value.{value_of}
use Rattle.keys.specs.Keys.{shown_all}
use Rattle.keys.proofs.one_time.OneTimeKey.leaf.Given as goal

abbrev pub invariant-loop-bit : goal.invariant-loop-bit
invariant-loop-bit g l = g.H.RowHasher.holds l.hasher (2 ∷ shown_all g.H.RowHasher.mix (value_of l.self.secrets.now.seed) l.self.index 0 l.bit)
