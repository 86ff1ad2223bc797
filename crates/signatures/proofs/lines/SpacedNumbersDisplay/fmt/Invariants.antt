-- The numbers before this one are written.
use Rattle.std.proofs.Common.{[], map, take}
use Rattle.std.specs.Fmt.{HasWritten, IsPlainFormatter}
use Rattle.hash.specs.Value.{value_of}
use Rattle.signatures.specs.Lines.{numbers_line}
use Rattle.signatures.proofs.lines.SpacedNumbersDisplay.fmt.Given as goal

abbrev pub invariant-loop-number : goal.invariant-loop-number
invariant-loop-number g l =
    IsPlainFormatter l.fn.f → HasWritten g.W.Write.write_str_gives l.fn.f (numbers_line [] (map value_of (take l.number-index l.self.0.now))) l.f
