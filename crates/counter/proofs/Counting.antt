-- The store while a key is reserved: it stays sound, and the next key rises by one where both numbers are written.
use Rattle.std.proofs.Common.{◌≡◌, ◌∙◌, ℕ, zero, suc, ◌+◌, ◌*◌, ◌<◌, ◌≤◌, true, ◌⊎◌, List, [], ◌∷◌, set, slice_index, sym, refl, ap, subst, subst₂, inl, inr, arith}
use Rattle.std.proofs.lemmas.Bool.Decides.{nat_tests}
use Rattle.counter.specs.Promises.{LargestRight}
use Rattle.counter.specs.Store.{check, slot_ok, written, next, reserved, sound, counting}

-- a store of four numbers whose first slot is written next, and one whose second is
first_written : (a p b q : ℕ) → q ≡ check b → (p ≡ check a → a ≤ b) →
    (sound (a ∷ p ∷ b ∷ q ∷ []) ≡ true) × (written (a ∷ p ∷ b ∷ q ∷ []) ≡ 0) × (next (a ∷ p ∷ b ∷ q ∷ []) ≡ b)
first_written a p b q e f = grind (arith, nat_tests)

second_written : (a p b q : ℕ) → p ≡ check a → (q ≡ check b → b < a) →
    (sound (a ∷ p ∷ b ∷ q ∷ []) ≡ true) × (written (a ∷ p ∷ b ∷ q ∷ []) ≡ 1) × (next (a ∷ p ∷ b ∷ q ∷ []) ≡ a)
second_written a p b q e f = grind (arith, nat_tests)

-- a sound store is one of the two
which : (a p b q : ℕ) → sound (a ∷ p ∷ b ∷ q ∷ []) ≡ true → ((q ≡ check b) × (p ≡ check a → a ≤ b)) ⊎ ((p ≡ check a) × (q ≡ check b → b < a))
which a p b q s = grind (arith, nat_tests)

four : (m : List ℕ) → sound m ≡ true → (a : ℕ) × (p : ℕ) × (b : ℕ) × (q : ℕ) × (m ≡ a ∷ p ∷ b ∷ q ∷ [])
four [] s = grind arith
four (a ∷ []) s = grind arith
four (a ∷ p ∷ []) s = grind arith
four (a ∷ p ∷ b ∷ []) s = grind arith
four (a ∷ p ∷ b ∷ q ∷ []) s = (a, p, b, q, refl)
four (a ∷ p ∷ b ∷ q ∷ x ∷ xs) s = grind arith

-- what holds of every sound store of four numbers holds of every sound store
by_four : (P : List ℕ → Type 0) → ((a p b q : ℕ) → sound (a ∷ p ∷ b ∷ q ∷ []) ≡ true → P (a ∷ p ∷ b ∷ q ∷ [])) → (m : List ℕ) → sound m ≡ true → P m
by_four P f m s = let r = four m s in rw r.4 (f r.0 r.1 r.2 r.3 (rw r.4 at s))

-- what n writes of reserving leave of the store m
abbrev pub Kept : ℕ → List ℕ → List ℕ → Type 0
Kept n m r = (sound r ≡ true) × (next m ≤ next r) × (next r ≤ next m + 1) × (2 ≤ n → next r ≡ next m + 1)

written_first : (n a p b q : ℕ) → q ≡ check b → (p ≡ check a → a ≤ b) → Kept (suc (suc n)) (a ∷ p ∷ b ∷ q ∷ []) (reserved (suc (suc n)) (a ∷ p ∷ b ∷ q ∷ []))
written_first n a p b q e f =
    let v = first_written a p b q e f in
    let w = second_written (b + 1) (check (b + 1)) b q refl (λ _. omega arith) in
    subst₂ (λ (y x : ℕ). Kept (suc (suc n)) (a ∷ p ∷ b ∷ q ∷ []) (set (set (a ∷ p ∷ b ∷ q ∷ []) (2 * y) (x + 1)) (2 * y + 1) (check (x + 1)))) (sym v.1) (sym v.2) (w.0, omega arith, omega arith, λ h. omega arith)

written_second : (n a p b q : ℕ) → p ≡ check a → (q ≡ check b → b < a) → Kept (suc (suc n)) (a ∷ p ∷ b ∷ q ∷ []) (reserved (suc (suc n)) (a ∷ p ∷ b ∷ q ∷ []))
written_second n a p b q e f =
    let v = second_written a p b q e f in
    let w = first_written a p (a + 1) (check (a + 1)) refl (λ _. omega arith) in
    subst₂ (λ (y x : ℕ). Kept (suc (suc n)) (a ∷ p ∷ b ∷ q ∷ []) (set (set (a ∷ p ∷ b ∷ q ∷ []) (2 * y) (x + 1)) (2 * y + 1) (check (x + 1)))) (sym v.1) (sym v.2) (w.0, omega arith, omega arith, λ h. omega arith)

kept_four : (n a p b q : ℕ) → sound (a ∷ p ∷ b ∷ q ∷ []) ≡ true → Kept n (a ∷ p ∷ b ∷ q ∷ []) (reserved n (a ∷ p ∷ b ∷ q ∷ []))
kept_four zero a p b q s = grind (arith, nat_tests)
kept_four (suc zero) a p b q s = (grind (arith, nat_tests), grind (arith, nat_tests), grind (arith, nat_tests), λ h. omega arith)
kept_four (suc (suc n)) a p b q s =
    elim (which a p b q s) [ inl v ↦ written_first n a p b q v.0 v.1 | inr v ↦ written_second n a p b q v.0 v.1 ]

pub kept : (n : ℕ) (m : List ℕ) → sound m ≡ true → Kept n m (reserved n m)
kept n = by_four (λ (m : List ℕ). Kept n m (reserved n m)) (kept_four n)

-- a count that is one more than the next key does not have the check of a smaller one, since it is less than the modulus away
no_match : (a b : ℕ) → a ≤ b → b < 4294967290 → check a ≡ check (b + 1) → ⊥
no_match a b l u e = omega arith

cut_four : (a p b q : ℕ) → p ≡ check a → q ≡ check b → next (a ∷ p ∷ b ∷ q ∷ []) < 4294967290 →
    next (reserved 1 (a ∷ p ∷ b ∷ q ∷ [])) ≡ next (a ∷ p ∷ b ∷ q ∷ [])
cut_four a p b q e f u =
    elim (which a p b q (grind (arith, nat_tests))) [
      | inl v ↦
          let n = first_written a p b q f v.1 in
          let w = first_written (b + 1) p b q f (λ z. absurd (no_match a b (v.1 e) (omega (arith, n.2)) (sym e ∙ z))) in
          subst₂ (λ (y x : ℕ). next (set (a ∷ p ∷ b ∷ q ∷ []) (2 * y) (x + 1)) ≡ x) (sym n.1) (sym n.2) w.2
      | inr v ↦
          let n = second_written a p b q e v.1 in
          let below = v.1 f in
          let w = second_written a p (a + 1) q e (λ z. absurd (no_match b a (omega arith) (omega (arith, n.2)) (sym f ∙ z))) in
          subst₂ (λ (y x : ℕ). next (set (a ∷ p ∷ b ∷ q ∷ []) (2 * y) (x + 1)) ≡ x) (sym n.1) (sym n.2) w.2
    ]

-- where both slots are right, a count that is written alone changes nothing
pub cut_keeps : (m : List ℕ) → sound m ≡ true → slot_ok m 0 ≡ true → slot_ok m 1 ≡ true → next m < 4294967290 → next (reserved 1 m) ≡ next m
cut_keeps = by_four (λ (m : List ℕ). slot_ok m 0 ≡ true → slot_ok m 1 ≡ true → next m < 4294967290 → next (reserved 1 m) ≡ next m)
    (λ a p b q s e f u. cut_four a p b q (grind (arith, nat_tests)) (grind (arith, nat_tests)) u)

-- the slot that counts holds the next key and its check
counting_four : (a p b q : ℕ) → sound (a ∷ p ∷ b ∷ q ∷ []) ≡ true → counting (a ∷ p ∷ b ∷ q ∷ []) ≡ next (a ∷ p ∷ b ∷ q ∷ []) ∷ check (next (a ∷ p ∷ b ∷ q ∷ [])) ∷ []
counting_four a p b q s =
    elim (which a p b q s) [
      | inl v ↦
          let n = first_written a p b q v.0 v.1 in
          let e : counting (a ∷ p ∷ b ∷ q ∷ []) ≡ b ∷ q ∷ [] = rw (s, n.1) refl in
          e ∙ subst (λ (x : ℕ). b ∷ q ∷ [] ≡ x ∷ check x ∷ []) (sym n.2) (ap (λ (y : ℕ). b ∷ y ∷ []) v.0)
      | inr v ↦
          let n = second_written a p b q v.0 v.1 in
          let e : counting (a ∷ p ∷ b ∷ q ∷ []) ≡ a ∷ p ∷ [] = rw (s, n.1) refl in
          e ∙ subst (λ (x : ℕ). a ∷ p ∷ [] ≡ x ∷ check x ∷ []) (sym n.2) (ap (λ (y : ℕ). a ∷ y ∷ []) v.0)
    ]

pub counting_is : (m : List ℕ) → sound m ≡ true → counting m ≡ next m ∷ check (next m) ∷ []
counting_is = by_four (λ (m : List ℕ). counting m ≡ next m ∷ check (next m) ∷ []) counting_four

-- the next key is the largest count that is right
none_larger : (a p b q x : ℕ) → (p ≡ check a → a ≤ x) → (q ≡ check b → b ≤ x) → (k : ℕ) → k < 2 → slot_ok (a ∷ p ∷ b ∷ q ∷ []) k ≡ true →
    slice_index (a ∷ p ∷ b ∷ q ∷ []) (2 * k) ≤ x
none_larger a p b q x f g zero h s = f (grind (arith, nat_tests))
none_larger a p b q x f g (suc zero) h s = g (grind (arith, nat_tests))
none_larger a p b q x f g (suc (suc k)) h s = absurd (omega arith)

largest_four : (a p b q : ℕ) → sound (a ∷ p ∷ b ∷ q ∷ []) ≡ true → LargestRight (a ∷ p ∷ b ∷ q ∷ []) (next (a ∷ p ∷ b ∷ q ∷ []))
largest_four a p b q s =
    elim (which a p b q s) [
      | inl v ↦
          let n = first_written a p b q v.0 v.1 in
          ((1, omega arith, grind (arith, nat_tests), sym n.2), none_larger a p b q _ (λ e. omega (arith, v.1 e, n.2)) (λ _. omega (arith, n.2)))
      | inr v ↦
          let n = second_written a p b q v.0 v.1 in
          ((0, omega arith, grind (arith, nat_tests), sym n.2), none_larger a p b q _ (λ _. omega (arith, n.2)) (λ e. omega (arith, v.1 e, n.2)))
    ]

pub largest : (m : List ℕ) → sound m ≡ true → LargestRight m (next m)
largest = by_four (λ (m : List ℕ). LargestRight m (next m)) largest_four
