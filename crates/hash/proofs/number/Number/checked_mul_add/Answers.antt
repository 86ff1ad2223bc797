-- One byte more, and its carry; a carry that is left makes the number too large.
use Rattle.std.proofs.Common.{◌≡◌, ℕ, ◌+◌, ◌-◌, ◌*◌, ◌^◌, ◌<◌, ◌≤◌, nat_eq, zero, suc, MatchOption, List, take, length, get_or, ap, sym, refl, ◌∙◌, arith}
use native.Mathlib.Nat.{mul-le-mul}
use Rattle.std.specs.Int.Digits.{number_from_digits_after}
use Rattle.std.proofs.lemmas.Bool.{ne_eqb}
use Rattle.std.proofs.lemmas.List.{length-set, take-set, take-take, at_drop_all}
use Rattle.std.specs.Bool.{then_some}
use Rattle.hash.specs.Value.{worth, value_of}
use Rattle.hash.specs.declared.number.Number.{Number}
use Rattle.hash.proofs.Carries.{carried, left_over}
use Rattle.hash.proofs.number.Number.checked_mul_add.Goals as goal

pub loop-i-init : goal.loop-i-init
loop-i-init c =
    let a = c.args.self.now.bytes in
    let short : length a ≤ 32 = omega (arith, c.args.self.now.sized) in
    let none = at_drop_all worth a 32 short in
    let done = at_drop_all (number_from_digits_after 256 c.from-carry.result) a 32 short in
    (c.args.self.now.sized, omega arith, refl, omega (arith, done, ap (λ k. k * c.args.factor) none))

pub loop-i-preserved : goal.loop-i-preserved
loop-i-preserved c =
    let a = c.args.self.now.bytes in
    let b = c.loop-i.bytes in
    let i = c.loop-i.i - 1 in
    let next : c.loop-i.i ≡ i + 1 = omega arith in
    let within : i < length a = omega (arith, c.args.self.now.sized) in
    let same = sym (take-take i c.loop-i.i b (omega arith)) ∙ (ap (λ (xs : List ℕ). take i xs) c.loop-i.invariant.2 ∙ take-take i c.loop-i.i a (omega arith)) in
    let small : c.from.result * c.from-in-loop-i.result ≤ 255 * 255 = mul-le-mul {n₂ = 255} {m₂ = 255} (omega arith) (omega arith) in
    let grown = ap (λ k. k * c.from-in-loop-i.result + c.loop-i.carry) c.from.ensures ∙ ap (λ k. get_or b i 0 * k + c.loop-i.carry) c.from-in-loop-i.ensures in (
      length-set b i _ ∙ c.loop-i.invariant.0,
      omega arith,
      take-set b i _ ∙ same,
      carried 256 c.args.factor c.loop-i.carry c.args.addend i c.loop-i.i _ a b next (c.args.self.now.sized ∙ sym c.loop-i.invariant.0) within grown c.loop-i.invariant.2 c.loop-i.invariant.3,
    )

-- the answer, by what is carried past the first byte
settled : (carry v : ℕ) (bs : List ℕ) (x : Number) → value_of x ≡ worth bs → length bs ≡ 32 → number_from_digits_after 256 carry bs ≡ v →
    MatchOption (then_some (nat_eq carry 0) x) (2 ^ 256 ≤ v) (λ n. value_of n ≡ v)
settled zero v bs x w l e = w ∙ e
settled (suc k) v bs x w l e = rw (ne_eqb (suc k) 0 (λ z. omega arith)) (omega (arith, rw l at (left_over 256 (suc k) bs (omega arith))))

pub returns : goal.returns
returns c =
    let i : c.loop-i.i ≡ 0 = omega arith in
    let e = rw i at c.loop-i.invariant.3 in
    rw c.then_some.ensures (settled c.loop-i.carry _ c.loop-i.bytes c.from-2.result c.from-2.ensures.1 c.loop-i.invariant.0 e)
