-- In each lane, the words before this one are the schedule from word t on.
use Rattle.std.proofs.Common.{◌≡◌, ◌+◌, ◌<◌, ℕ, List, take, length}
use Rattle.compression.specs.Fips180.{schedule}
use Rattle.lanes.specs.Lane.{lane_of}
use Rattle.lanes.proofs.schedule.eight_words.Given as goal

abbrev pub invariant-loop-k : goal.invariant-loop-k
invariant-loop-k l = (length l.w ≡ 64) × ((j : ℕ) → j < 8 → (b : List ℕ) → take (l.t + 16) (lane_of j l.fn.w) ≡ schedule l.t b → take (l.t + l.k + 16) (lane_of j l.w) ≡ schedule (l.t + l.k) b)
