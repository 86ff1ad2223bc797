-- Those before this one are.
use Rattle.std.proofs.Common.{IsTrue, take}
use Rattle.std.specs.List.{All}
use Rattle.sha256.specs.Eight.{HalfFull}
use Rattle.sha256.proofs.rows.eight.all_half_full.Given as goal

abbrev pub invariant-loop-s : goal.invariant-loop-s
invariant-loop-s l = IsTrue l.all → All HalfFull (take l.s-index l.hashers)
