-- In each lane, the words before this one stand in front.
use Rattle.std.proofs.Common.{◌≡◌, ℕ, ◌<◌, [], take, length, slice_index_or}
use Rattle.compression.specs.Fips180.{words}
use Rattle.lanes.specs.Lane.{lane_of}
use Rattle.lanes.proofs.schedule.load.Given as goal

abbrev pub invariant-loop-t : goal.invariant-loop-t
invariant-loop-t l = (length l.w ≡ 64) × ((j : ℕ) → j < 8 → take l.t (lane_of j l.w) ≡ words l.t (slice_index_or l.blocks j []))
