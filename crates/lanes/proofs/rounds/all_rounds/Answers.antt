-- No round yet.
use Rattle.std.proofs.Common.{refl}
use Rattle.compression.specs.Fips180.{rounds}
use Rattle.lanes.proofs.rounds.all_rounds.Goals as goal

pub loop-i-init : goal.loop-i-init
unfolding rounds
loop-i-init c = λ j lt. refl
