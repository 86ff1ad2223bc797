-- The bytes before this one are written.
use Rattle.std.proofs.Common.{◌≡◌, ℕ, ◌+◌, ◌*◌, ◌%◌, ◌<◌, length, slice_index}
use Rattle.hash_speed.proofs.work.pattern.Given as goal

abbrev pub invariant-loop-i : goal.invariant-loop-i
invariant-loop-i g l = (length l.bytes ≡ l.i-end) × ((k : ℕ) → k < l.i → slice_index l.bytes k ≡ (k * 7 + 3) % 256)
