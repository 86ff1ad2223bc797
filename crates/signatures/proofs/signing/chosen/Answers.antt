-- One bit more, and all eight.
use Rattle.std.proofs.Common.{◌≡◌, ◌+◌, false, true, get_or, refl, ap, sym, ◌∙◌, arith}
use Rattle.std.proofs.lemmas.List.{length-set, take_all}
use Rattle.hash.specs.Value.{value_of}
use Rattle.signatures.specs.Signatures.{each_from}
use Rattle.signatures.proofs.Each.{each_more, number_at}
use Rattle.signatures.proofs.signing.chosen.Goals.{then-bit, else-bit}
use Rattle.signatures.proofs.signing.chosen.Goals as goal

pub loop-k-init : goal.loop-k-init
unfolding each_from
loop-k-init c = (c.told-unset, λ number first unset set. refl)

pub loop-k-preserved : goal.loop-k-preserved
loop-k-preserved c =
    let k = c.loop-k.k in
    let bits = c.args.bits.now in
    let inv = c.loop-k.invariant in (
      length-set _ _ _ ∙ inv.0,
      λ number first unset set.
          let here : value_of c.if-bit.numbers ≡ number (first + k) (get_or bits k false) =
          elim c.if-bit.branch [
            | then-bit w ↦ ap value_of w.numbers-is ∙ (number_at value_of (λ j. number j true) first 8 k c.args.set.now w.index-set-k.result set c.loop-k-test.true ∙ ap (number (first + k)) (sym w.if-bit.true))
            | else-bit w ↦ ap value_of w.numbers-is ∙ (number_at value_of (λ j. number j false) first 8 k c.args.unset.now w.index-unset-k.result unset c.loop-k-test.true ∙ ap (number (first + k)) (sym w.if-bit.false))
          ] in
          each_more value_of number first bits c.loop-k.numbers k c.if-bit.numbers (omega arith) (omega (arith, inv.0)) here (inv.1 number first unset set),
    )

pub returns : goal.returns
returns c = λ number first unset set.
    let whole = take_all c.loop-k.k c.loop-k.numbers (omega (arith, c.loop-k.invariant.0)) in
    let all = take_all c.loop-k.k c.args.bits.now (omega arith) in
    rw (whole, all) at (c.loop-k.invariant.1 number first unset set)
