-- In each lane, what is written so far is the schedule, eight words at a time.
use Rattle.std.proofs.Common.{◌≡◌, ◌+◌, ◌*◌, ◌<◌, ℕ, List, take, length}
use Rattle.compression.specs.Fips180.{words, schedule}
use Rattle.lanes.specs.Lane.{lane_of}
use Rattle.lanes.proofs.schedule.expand.Given as goal

abbrev pub invariant-loop-i : goal.invariant-loop-i
invariant-loop-i l = (length l.w ≡ 64) × ((j : ℕ) → j < 8 → (b : List ℕ) → take 16 (lane_of j l.fn.w) ≡ words 16 b → take (8 * l.i + 16) (lane_of j l.w) ≡ schedule (8 * l.i) b)
