-- No block yet, and one block more.
use Rattle.std.proofs.Common.{rules}
use Rattle.hash_speed.specs.Work.{after_blocks}
use Rattle.hash_speed.proofs.work.compress_again.Goals as goal

pub loop-init : goal.loop-init
unfolding after_blocks
loop-init c = search rules

pub loop-preserved : goal.loop-preserved
unfolding after_blocks
loop-preserved c = search rules
