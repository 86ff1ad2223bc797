-- The digits before this one write the value.
use Rattle.std.proofs.Common.{◌≡◌, ◌<◌, true, take}
use Rattle.reading.specs.Spelling.{all_digits, digits_value}
use Rattle.reading.proofs.decimal.read_decimal.Given as goal

abbrev pub invariant-loop-digit : goal.invariant-loop-digit
invariant-loop-digit g l =
    (g.T.FromDecimal.worth l.value ≡ digits_value (take l.digit-index l.text))
    × (all_digits (take l.digit-index l.text) ≡ true) × (g.T.FromDecimal.worth l.value < g.T.FromDecimal.limit)
