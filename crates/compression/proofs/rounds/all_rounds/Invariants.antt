-- The working variables after eight rounds for each turn.
use Rattle.std.proofs.Common.{◌≡◌, ◌*◌}
use Rattle.compression.specs.Fips180.{rounds}
use Rattle.compression.proofs.rounds.all_rounds.Given as goal

abbrev pub invariant-loop-i : goal.invariant-loop-i
invariant-loop-i l = l.v ≡ rounds (8 * l.i) l.w l.fn.start
