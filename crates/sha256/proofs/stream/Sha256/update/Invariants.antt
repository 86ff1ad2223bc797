-- What was taken in and what is left are the bytes; each turn leaves fewer.
use Rattle.std.proofs.Common.{◌≡◌, ℕ, List, ◌++◌, length}
use Rattle.sha256.specs.Streams.{Holds}
use Rattle.sha256.proofs.stream.Sha256.update.Given as goal

abbrev pub invariant-loop-rest : goal.invariant-loop-rest
invariant-loop-rest l = (taken : List ℕ) × (l.bytes ≡ taken ++ l.rest) × ((m : List ℕ) → Holds l.fn.self m → Holds l.self (m ++ taken))

abbrev pub decreases-loop-rest : goal.decreases-loop-rest
decreases-loop-rest l = length l.rest
