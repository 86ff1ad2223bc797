-- What is left to write leaves of the numbers what all writes leave of the first ones.
use Rattle.std.proofs.Common.{◌≡◌, length, drop}
use Rattle.counter.specs.Cells.{left_by}
use Rattle.durable_tests.proofs.disk.written.Given as goal

abbrev pub invariant-loop-write : goal.invariant-loop-write
invariant-loop-write l = (length l.numbers ≡ 4) × (left_by (drop l.write-index l.fn.writes) l.numbers ≡ left_by l.fn.writes l.fn.numbers)
