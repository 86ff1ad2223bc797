-- The hash value after as many blocks as there were turns.
use Rattle.std.proofs.Common.{◌≡◌}
use Rattle.hash_speed.specs.Work.{after_blocks}
use Rattle.hash_speed.proofs.work.compress_again.Given as goal

abbrev pub invariant-loop : goal.invariant-loop
invariant-loop l = l.state ≡ after_blocks l.counter l.block
