-- What it tells that a refusal does not apply.
use Rattle.std.proofs.Common.{◌≡◌, ℕ, ◌≤◌, Bool, true, false, cond, ◌&&◌, leb, Some, None, Ok, Option, refl, subst}
use Rattle.std.proofs.lemmas.Bool.{leb-true, and_parts}
use Rattle.keys.specs.Limits.{max_levels, max_bits}
use Rattle.keys.specs.Refusals.{first, levels_refusal, bits_refusal, Unless}
use Rattle.keys.specs.declared.refusal.Refusal.{Refusal}

-- a test under which nothing is refused has passed
pub passed : (t : Bool) (r : Refusal) → None ≡ cond t None (Some r) → t ≡ true
passed true r e = refl
passed false r e = absurd cc

pub levels_taken : (l : ℕ) → None ≡ levels_refusal l → l ≤ max_levels
levels_taken l e = leb-true l max_levels (passed (leb l max_levels) _ e)

pub bits_taken : (n : ℕ) → None ≡ bits_refusal n → (1 ≤ n) × (n ≤ max_bits)
bits_taken n e =
    let p = and_parts (leb 1 n) (leb n max_bits) (passed (leb 1 n && leb n max_bits) _ e) in (leb-true 1 n p.0, leb-true n max_bits p.1)

-- where the first of two that applies is none, neither does
pub neither : (a b : Option Refusal) → None ≡ first a b → (None ≡ a) × (None ≡ b)
neither (Some r) b e = absurd cc
neither None b e = (refl, e)

-- what is made where nothing is refused
pub made : {T : Type 0} (o : Option Refusal) (x : T) (P : T → Type 0) → None ≡ o → P x → Unless o (Ok x) P
made o x P e p = subst (λ (q : Option Refusal). Unless q (Ok x) P) e p

-- what is made is made where no refusal applies
pub unrefused : {T : Type 0} (o : Option Refusal) (x : T) (P : T → Type 0) → Unless o (Ok x) P → (None ≡ o) × P x
unrefused (Some r) x P u = absurd u
unrefused None x P u = (refl, u)
