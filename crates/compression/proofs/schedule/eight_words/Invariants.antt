-- The words before this one are the schedule from word t on.
use Rattle.std.proofs.Common.{◌≡◌, ◌+◌, ℕ, List, take, length}
use Rattle.compression.specs.Fips180.{schedule}
use Rattle.compression.proofs.schedule.eight_words.Given as goal

abbrev pub invariant-loop-j : goal.invariant-loop-j
invariant-loop-j l = (length l.w ≡ 64) × ((b : List ℕ) → take (l.t + 16) l.fn.w ≡ schedule l.t b → take (l.t + l.j + 16) l.w ≡ schedule (l.t + l.j) b)
