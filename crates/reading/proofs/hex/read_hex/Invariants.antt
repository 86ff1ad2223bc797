-- The digits before this byte's are those of the bytes that are read.
use Rattle.std.proofs.Common.{◌≡◌, ◌*◌, length, take}
use Rattle.hash.specs.Hex.{hex}
use Rattle.reading.proofs.hex.read_hex.Given as goal

abbrev pub invariant-loop-i : goal.invariant-loop-i
invariant-loop-i l = (length l.bytes ≡ 32) × (take (2 * l.i) l.text ≡ hex (take l.i l.bytes))
