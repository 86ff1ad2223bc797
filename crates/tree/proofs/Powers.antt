-- Two to the power of a number, as the tree counts its keys.
use Rattle.std.proofs.Common.{◌≡◌, ℕ, zero, suc, ◌*◌, ◌/◌, ◌%◌, ◌^◌, ◌<◌, ◌≤◌, cond, ltb, Some, None, sym, refl, ◌∙◌, inl, inr, mod-eq_of_lt, one-mul, zero-add, arith, pow_mono, shr_lt}
use lib.Pow.{pow-lt}
use Rattle.std.proofs.lemmas.Bool.{cases_Bool, cond-true, ltb-false}
use Rattle.keys.specs.Limits.{max_levels}
use Rattle.tree.specs.Tree.{power}

pub power_is : (n : ℕ) → power n ≡ 2 ^ n
power_is zero = refl
power_is (suc n) = omega (arith, power_is n)

-- no tree that a signer may have has more keys than the largest
pub few_keys : (l : ℕ) → l ≤ max_levels → power l ≤ 2 ^ max_levels
few_keys l h =
    let m : 2 ^ l ≤ 2 ^ max_levels = pow_mono h in
    let p = power_is l in omega arith

-- what a shift of 1 gives in 64 bits
pub shifted : (n : ℕ) → n < 64 → 1 * 2 ^ n % 2 ^ 64 ≡ power n
shifted n h =
    let small : 2 ^ n < 2 ^ 64 = pow-lt h in
    let e : 1 * 2 ^ n ≡ 2 ^ n = one-mul (2 ^ n) in
    let f : 1 * 2 ^ n < 2 ^ 64 = omega arith in mod-eq_of_lt f ∙ (e ∙ sym (power_is n))

-- a number of 64 bits is below every larger power
pub above : (k n : ℕ) → k < 2 ^ 64 → 64 ≤ n → k < power n
above k n h le =
    let m : 2 ^ 64 ≤ 2 ^ n = pow_mono le in
    let p = power_is n in omega arith

-- and nothing is left of it where that many of its bits are gone
pub spent : (k n : ℕ) → k < 2 ^ 64 → 64 ≤ n → k / 2 ^ n ≡ 0
spent k n h le =
    let m : 2 ^ 64 ≤ 2 ^ n = pow_mono le in
    let small : k < 2 ^ n = omega (arith, m, h) in
    let below : k / 2 ^ n < 1 = shr_lt 0 n (rw (zero-add n) small) in omega (arith, below)

-- where the number of keys is not told, there are at least 64 levels
pub far : (l : ℕ) → None ≡ cond (ltb l 64) (Some (power l)) None → 64 ≤ l
far l e =
    elim (cases_Bool (ltb l 64)) [
      | inl t ↦ let f = cond-true (ltb l 64) (Some (power l)) None t in absurd cc
      | inr f ↦ ltb-false l 64 f
    ]
