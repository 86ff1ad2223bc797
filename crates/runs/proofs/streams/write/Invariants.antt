-- What is gone from `left` was written.
use Rattle.runs.specs.Runs.{AppendsFront}
use Rattle.runs.proofs.streams.write.Given as goal

abbrev pub invariant-loop : goal.invariant-loop
invariant-loop g l = AppendsFront (g.W.Write.contents l.initial.writer) (g.W.Write.contents l.writer) l.initial.left l.left
