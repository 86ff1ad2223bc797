-- No buffer yet, and one buffer more.
use Rattle.std.proofs.Common.{rules}
use Rattle.hash_speed.specs.Work.{copies}
use Rattle.hash_speed.proofs.work.digest_of_bytes.Goals as goal

pub loop-init : goal.loop-init
unfolding copies
loop-init c = search rules

pub loop-preserved : goal.loop-preserved
unfolding copies
loop-preserved c = search rules
