-- The digits of the bytes before this one stand in front.
use Rattle.std.proofs.Common.{◌≡◌, ◌*◌, length, take}
use Rattle.hash.specs.Hex.{hex}
use Rattle.hash.proofs.number.display.digits_of.Given as goal

abbrev pub invariant-loop-i : goal.invariant-loop-i
invariant-loop-i l = (length l.digits ≡ 64) × (take (2 * l.i) l.digits ≡ hex (take l.i l.bytes))
