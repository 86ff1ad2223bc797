-- In each lane, the working variables after eight rounds for each turn.
use Rattle.std.proofs.Common.{◌≡◌, ℕ, ◌*◌, ◌<◌}
use Rattle.compression.specs.Fips180.{rounds}
use Rattle.lanes.specs.Lane.{lane, lane_of}
use Rattle.lanes.proofs.rounds.all_rounds.Given as goal

abbrev pub invariant-loop-i : goal.invariant-loop-i
invariant-loop-i l = (j : ℕ) → j < 8 → lane j l.s ≡ rounds (8 * l.i) (lane_of j l.w) (lane j l.fn.start)
