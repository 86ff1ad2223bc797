-- Each digit passes, or refuses the whole.
use Rattle.std.proofs.Common.{add-one, arith}
use Rattle.reading.proofs.Decimals.{value_more, digits_more, no_digit, too_large}
use Rattle.reading.proofs.decimal.read_decimal.Goals as goal

pub returns-in_err-digit_value : goal.returns-in_err-digit_value
returns-in_err-digit_value g c =
    rw c.from_residual.ensures (no_digit g.T.FromDecimal.limit c.args.text.now c.loop-digit.digit-index (omega arith) c.in_err-digit_value.ensures)

pub returns-in_err-value : goal.returns-in_err-value
returns-in_err-value g c =
    rw c.from_residual-in_err-value.ensures
    (too_large g.T.FromDecimal.limit c.args.text.now c.loop-digit.digit-index (omega arith) (omega (arith, c.in_err-value.ensures, c.in_ok-digit_value.ensures.1, c.loop-digit.invariant.0)))

pub loop-digit-preserved : goal.loop-digit-preserved
loop-digit-preserved g c =
    let text = c.args.text.now in
    let i = c.loop-digit.digit-index in
    let digit = c.in_ok-digit_value.ensures in (
      omega (arith, c.in_ok-value.ensures.0, digit.1, value_more text i (omega arith), c.loop-digit.invariant.0),
      rw (add-one i) (digits_more text i (omega arith) c.loop-digit.invariant.1 digit.0),
      c.in_ok-value.ensures.1,
    )
