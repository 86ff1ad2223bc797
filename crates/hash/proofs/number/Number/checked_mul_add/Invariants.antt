-- The bytes before this one are as they were, and the carry stands before those that are done.
use Rattle.std.proofs.Common.{◌≡◌, ◌+◌, ◌*◌, ◌<◌, length, take, drop}
use Rattle.std.specs.Int.Digits.{number_from_digits_after}
use Rattle.hash.specs.Value.{worth}
use Rattle.hash.proofs.number.Number.checked_mul_add.Given as goal

abbrev pub invariant-loop-i : goal.invariant-loop-i
invariant-loop-i l =
    (length l.bytes ≡ 32) × (l.carry < 256) × (take l.i l.bytes ≡ take l.i l.fn.self.bytes)
    × (number_from_digits_after 256 l.carry (drop l.i l.bytes) ≡ worth (drop l.i l.fn.self.bytes) * l.factor + l.addend)
