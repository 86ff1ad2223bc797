-- The writes that reserve a key, made one after the other.
use Rattle.std.proofs.Common.{◌≡◌, ℕ, zero, suc, ◌+◌, ◌-◌, ◌*◌, ◌<◌, ◌≤◌, Bool, true, false, ltb, List, ◌++◌, length, length-set, set, refl, ap, sym, ◌∙◌, append_assoc, arith}
use Rattle.std.proofs.lemmas.Bool.Decides.{nat_tests}
use Rattle.std.proofs.lemmas.List.{append-nil, take_all}
use Rattle.counter.specs.Cells.{left_by, made_if}
use Rattle.counter.specs.Reserving.{ForPower, Written}
use Rattle.counter.specs.Store.{check, written, next, reserving, sound}
use Rattle.counter.specs.declared.write.Write.{Write}

-- the slot that is written next has both its cells
pub fits : (m : List ℕ) → sound m ≡ true → (2 * written m < length m) × (2 * written m + 1 < length m)
fits m s = grind (arith, nat_tests)

no_power : (w : ℕ) → false ≡ ltb 0 w → w ≡ 0
no_power w e = grind (arith, nat_tests)

-- no write was made
pub none_written : (m : List ℕ) (ws : List Write) (sure : Bool) (n : ℕ) → (sure ≡ true → false ≡ ltb 0 n) → ForPower sure n (Written m false ws ws m)
none_written m ws sure n e = (0, omega arith, λ s. sym (no_power n (e s)), record { both = refl; writes = sym (append-nil ws); held = refl })

-- the count was written, and its check or not
module _ (m : List ℕ) (ws : List Write) where
  abbrev count : List Write
  count = made_if true (2 * written m) (next m + 1)

  abbrev check_if : Bool → List Write
  check_if ok = made_if ok (2 * written m + 1) (check (next m + 1))

  abbrev After : Bool → ℕ → Type 0
  After ok w = Written m ok ws ((ws ++ count) ++ check_if ok) (left_by (check_if ok) (set m (2 * written m) (next m + 1))) w

  one : (w : ℕ) → 1 ≤ w → w < 2 → After false w
  one zero l u = absurd (omega arith)
  one (suc zero) l u = record { both = refl; writes = append-nil (ws ++ count); held = refl }
  one (suc (suc w)) l u = absurd (omega arith)

  two : (w : ℕ) → 2 ≤ w → After true w
  two zero l = absurd (omega arith)
  two (suc zero) l = absurd (omega arith)
  two (suc (suc w)) l = record { both = grind (arith, nat_tests); writes = append_assoc ws count (check_if true) ∙ ap (λ (x : List Write). ws ++ x) (sym (take_all (suc (suc w)) (reserving m) l)); held = refl }

  one_written : (ok : Bool) (w : ℕ) → true ≡ ltb 0 w → ok ≡ ltb 0 (w - 1) → After ok w
  one_written false w p e = one w (grind (arith, nat_tests)) (grind (arith, nat_tests))
  one_written true w p e = two w (grind (arith, nat_tests))

-- cells that held a sound m, in which the count was written where it belongs
pub record Counted (m m₀ m₁ : List ℕ) (ws ws₁ : List Write) (p k : ℕ) : Type 0 where
  pub sound : sound m ≡ true
  pub read : m₀ ≡ m
  pub place : p ≡ written m
  pub key : k ≡ next m
  pub held : m₁ ≡ set m₀ (2 * p) (k + 1)
  pub writes : ws₁ ≡ ws ++ made_if true (2 * p) (k + 1)

pub counted : (m m₀ m₁ : List ℕ) (ws ws₁ : List Write) (p k : ℕ) → sound m ≡ true → m₀ ≡ m → p ≡ written m → k ≡ next m → m₁ ≡ set m₀ (2 * p) (k + 1) → ws₁ ≡ ws ++ made_if true (2 * p) (k + 1) → Counted m m₀ m₁ ws ws₁ p k
counted m m₀ m₁ ws ws₁ p k s read place key held writes = record { sound = s; read = read; place = place; key = key; held = held; writes = writes }

pub check_fits : (m m₀ m₁ : List ℕ) (ws ws₁ : List Write) (p k : ℕ) → Counted m m₀ m₁ ws ws₁ p k → 2 * p + 1 < length m₁
check_fits m m₀ m₁ ws ws₁ p k c = rw (c.held, length-set m₀ (2 * p) (k + 1), c.read, c.place) (fits m c.sound).1

-- then its check is written, or not
module _ (m m₀ m₁ m₂ : List ℕ) (ws ws₁ ws₂ : List Write) (p k v : ℕ) (c : Counted m m₀ m₁ ws ws₁ p k) (q : v ≡ check (k + 1)) where
  abbrev last : Bool → List Write
  last ok = made_if ok (2 * p + 1) v

  pub checked : (ok : Bool) → m₂ ≡ left_by (last ok) m₁ → ws₂ ≡ ws₁ ++ last ok → (w : ℕ) → true ≡ ltb 0 w → ok ≡ ltb 0 (w - 1) → Written m₀ ok ws ws₂ m₂ w
  checked ok d f w l r = rw (f, d, c.writes, c.held, q, c.key, c.place, c.read) (one_written m ws ok w l r)

  -- with power for n writes, of which n₁ are left behind the count
  pub checked_for : (sure : Bool) (n n₁ : ℕ) (ok : Bool) → m₂ ≡ left_by (last ok) m₁ → ws₂ ≡ ws₁ ++ last ok → 0 < n → n₁ ≡ n - 1 → (ok ≡ true → 0 < n₁) → (sure ≡ true → ok ≡ ltb 0 n₁) →
      ForPower sure n (Written m₀ ok ws ws₂ m₂)
  checked_for sure n n₁ true d f p q few made =
      let more = few refl in
      (n, omega arith, λ _. refl, checked true d f n (grind (arith, nat_tests)) (grind (arith, nat_tests)))
  checked_for sure n n₁ false d f p q few made =
      (1, omega (arith, p), λ e. let none = no_power n₁ (made e) in omega (arith, none, p, q), checked false d f 1 refl refl)
