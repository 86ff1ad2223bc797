-- Digits are ASCII, so they are a text.
use Rattle.std.proofs.Common.{◌<◌, slice_index, ℕ}
use Rattle.std.proofs.lemmas.Str.{IsUtf8-from_ascii}
use Rattle.hash.specs.Hex.{hex}
use Rattle.hash.proofs.Hexes.{hex_ascii}
use Rattle.hash.proofs.number.display.NumberDisplay.fmt.Goals as goal

pub unreachable-requires : goal.unreachable-requires
unreachable-requires g c =
    let bytes = c.to_bytes.result in
    let small : (i : ℕ) → slice_index bytes i < 256 = rw c.to_bytes.ensures.bytes c.args.self.now.digits in
    c.in_default.ensures.cases.0 (rw c.digits_of-digits.ensures (IsUtf8-from_ascii (hex bytes) (hex_ascii bytes small)))
