-- The rows so far: for each key all that is shown of the bits before this one.
use Rattle.std.proofs.Common.{map}
use Rattle.std.specs.List.{AllZip}
use Rattle.hash.specs.Value.{value_of}
use Rattle.keys.specs.Keys.{leaf_row}
use Rattle.keys.proofs.one_time.Secrets.leaves.Given as goal

abbrev pub invariant-loop-bit : goal.invariant-loop-bit
invariant-loop-bit g l = AllZip g.H.RowHasher.holds l.hashers (map (leaf_row g.H.RowHasher.mix l.bit (value_of l.self.seed)) l.keys)
