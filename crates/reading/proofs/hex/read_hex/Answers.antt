-- What is no digit in sixteens stands in no number, and two digits are a byte.
use Rattle.std.proofs.Common.{ℕ, ◌+◌, ◌*◌, ◌/◌, ◌%◌, ◌<◌, List, length, get_or, sym, ap, ◌∙◌, arith, refl}
use Rattle.std.proofs.lemmas.List.{length-set}
use Rattle.reading.proofs.Hexes.{length-hex, hex_high, hex_low, read_more, pair_at}
use Rattle.reading.proofs.hex.read_hex.Goals as goal

pub returns-then-text-ne64 : goal.returns-then-text-ne64
returns-then-text-ne64 c n e = c.if-text-ne64.true (ap length e ∙ omega (arith, length-hex n.bytes, n.sized))

pub returns-in_err-digit_value : goal.returns-in_err-digit_value
returns-in_err-digit_value c =
    rw c.from_residual.ensures
    (λ n e.
    let i = c.loop-i.i in
    let text = c.args.text.now in
    let byte = n.digits i in
    let within : i < length n.bytes = omega (arith, n.sized, c.as_chunks.ensures.front_len, c.loop-i-test.true) in
    let here = pair_at text (length text / 2) i 0 (2 * i) (omega arith) (omega arith) (omega arith) in
    c.in_err-digit_value.ensures (get_or n.bytes i 0 / 16) (omega arith) (rw c.as_chunks.ensures.front (here ∙ (ap (λ (cs : List ℕ). get_or cs (2 * i) 0) e ∙ hex_high n.bytes i within))))

pub returns-in_err-bytes : goal.returns-in_err-bytes
returns-in_err-bytes c =
    rw c.from_residual-in_err-bytes.ensures
    (λ n e.
    let i = c.loop-i.i in
    let text = c.args.text.now in
    let byte = n.digits i in
    let within : i < length n.bytes = omega (arith, n.sized, c.as_chunks.ensures.front_len, c.loop-i-test.true) in
    let here = pair_at text (length text / 2) i 1 (2 * i + 1) (omega arith) (omega arith) refl in
    c.in_err-bytes.ensures (get_or n.bytes i 0 % 16) (omega arith) (rw c.as_chunks.ensures.front (here ∙ (ap (λ (cs : List ℕ). get_or cs (2 * i + 1) 0) e ∙ hex_low n.bytes i within))))

pub loop-i-preserved : goal.loop-i-preserved
loop-i-preserved c =
    let text = c.args.text.now in
    let i = c.loop-i.i in
    let high = rw c.as_chunks.ensures.front at c.in_ok-digit_value.ensures.1 in
    let low = rw c.as_chunks.ensures.front at c.in_ok-bytes.ensures.1 in
    let first = pair_at text (length text / 2) i 0 (2 * i) (omega arith) (omega arith) (omega arith) in
    let second = pair_at text (length text / 2) i 1 (2 * i + 1) (omega arith) (omega arith) refl in
    (length-set _ _ _ ∙ c.loop-i.invariant.0, read_more text c.loop-i.bytes i c.in_ok-digit_value.field-0 c.in_ok-bytes.field-0 (omega arith) (omega arith) c.in_ok-bytes.ensures.0 (sym first ∙ high) (sym second ∙ low) c.loop-i.invariant.1)
