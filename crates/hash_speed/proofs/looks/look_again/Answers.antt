-- No look yet, and one look more.
use Rattle.std.proofs.Common.{rules}
use Rattle.hash_speed.specs.Work.{taken_of}
use Rattle.hash_speed.proofs.looks.look_again.Goals as goal

pub loop-look-init : goal.loop-look-init
unfolding taken_of
loop-look-init g c = search rules

pub loop-look-preserved : goal.loop-look-preserved
unfolding taken_of
loop-look-preserved g c = search rules
