-- The words before this one stand in front.
use Rattle.std.proofs.Common.{◌≡◌, take, length}
use Rattle.compression.specs.Fips180.{words}
use Rattle.compression.proofs.schedule.load.Given as goal

abbrev pub invariant-loop-t : goal.invariant-loop-t
invariant-loop-t l = (length l.w ≡ 64) × (take l.t l.w ≡ words l.t l.block)
