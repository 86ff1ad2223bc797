-- The row so far: all that is shown of the bits before this one.
use Rattle.std.proofs.Common.{◌+◌}
use Rattle.hash.specs.Value.{value_of}
use Rattle.keys.specs.Keys.{leaf_row}
use Rattle.keys.proofs.one_time.eight.absorb_eight_bits.Given as goal

abbrev pub invariant-loop-k : goal.invariant-loop-k
invariant-loop-k g l =
    g.H.RowHasher.holds l.fn.hasher (leaf_row g.H.RowHasher.mix l.first (value_of l.key.secrets.now.seed) l.key.index) →
    g.H.RowHasher.holds l.hasher (leaf_row g.H.RowHasher.mix (l.first + l.k) (value_of l.key.secrets.now.seed) l.key.index)
