-- The hasher has taken in the buffer once for each turn.
use Rattle.sha256.specs.Streams.{Holds}
use Rattle.hash_speed.specs.Work.{copies}
use Rattle.hash_speed.proofs.work.digest_of_bytes.Given as goal

abbrev pub invariant-loop : goal.invariant-loop
invariant-loop l = Holds l.hasher (copies l.counter l.buffer)
