-- The line is cut in one way only.
use Rattle.std.proofs.Common.{ℕ, ◌^◌, List, codes, sym, refl, subst}
use Rattle.hash.specs.Value.{value_of}
use Rattle.texts.specs.Commands.{DecimalBefore}
use Rattle.texts.proofs.Cuts.{before_same, not_both}
use Rattle.texts.proofs.command.read_levels.Goals as goal

pub returns-in_err-levels : goal.returns-in_err-levels
returns-in_err-levels c = rw c.from_residual.ensures (λ v s. c.in_err-levels.ensures v.signer.levels s.0 s.2)

pub returns-in_err-bits : goal.returns-in_err-bits
returns-in_err-bits c =
    rw c.from_residual-in_err-bits.ensures
    (λ v s.
    let rest = c.in_ok-levels.text.now in
    let same = (before_same c.args.text.now (codes " bits ") c.in_ok-levels.levels v.signer.levels rest s.0 refl c.in_ok-levels.ensures s.2).1 in
    c.in_err-bits.ensures v.bits s.1 (subst (λ (t : List ℕ). DecimalBefore t (codes " seed ") v.bits s.1) (sym same) s.3))

pub returns-in_err-seed : goal.returns-in_err-seed
returns-in_err-seed c =
    rw c.from_residual-in_err-seed.ensures
    (λ v s.
    let rest = c.in_ok-levels.text.now in
    let last = c.in_ok-bits.text.now in
    let same = (before_same c.args.text.now (codes " bits ") c.in_ok-levels.levels v.signer.levels rest s.0 refl c.in_ok-levels.ensures s.2).1 in
    let there = subst (λ (t : List ℕ). DecimalBefore t (codes " seed ") v.bits s.1) (sym same) s.3 in
    let same_2 = (before_same rest (codes " seed ") c.in_ok-bits.bits v.bits last s.1 refl c.in_ok-bits.ensures there).1 in
    not_both (2 ^ 256) last s.1 (value_of v.signer.seed) c.in_err-seed.ensures same_2 s.4)
