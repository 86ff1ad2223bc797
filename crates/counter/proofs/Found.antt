-- What may be found of cells that lie on a disk, while a key is reserved in them.
use Rattle.std.proofs.Common.{◌≡◌, ℕ, ◌+◌, ◌*◌, Bool, true, false, inl, inr, List, [], ◌∷◌, ◌++◌, set, refl, sym, ap, ◌∙◌, subst, arith}
use Rattle.counter.specs.Cells.{left_by, made_if, DiskState, still, Kept}
use Rattle.counter.specs.Reserving.{Follows, InStep}
use Rattle.counter.specs.Store.{check, written, next, sound}
use Rattle.counter.specs.declared.write.Write.{Write}
use Rattle.counter.proofs.Counting.{kept as kept_sound}
use Rattle.counter.proofs.Writes.{Counted}

-- one write more, behind others
pub left_by_more : (ws : List Write) (m : List ℕ) (p v : ℕ) → left_by (ws ++ (record { place = p; value = v } ∷ [])) m ≡ set (left_by ws m) p v
left_by_more [] m p v = refl
left_by_more (w ∷ ws) m p v = left_by_more ws (set m w.place w.value) p v

follows_itself : (m : List ℕ) → Follows m m
follows_itself m s = (s, omega arith, omega arith)

-- a disk of which all is known
pub still_in_step : (m : List ℕ) → InStep (still m) m
still_in_step m = (refl, λ m₁ e. subst (Follows m) (sym e) (follows_itself m))

-- so is one for which nothing waits
pub nothing_waits : (d : DiskState) → d.pending ≡ [] → InStep d d.settled
nothing_waits d none = subst (λ (x : DiskState). InStep x d.settled) (ap (λ (ws : List Write). record { settled = d.settled; pending = ws }) (sym none)) (still_in_step d.settled)

-- one for which a write waits
waits_in_step : (m : List ℕ) (p v : ℕ) → Follows m (set m p v) → InStep (record { settled = m; pending = record { place = p; value = v } ∷ [] }) m
waits_in_step m p v f = (refl, λ m₁ found. elim found [ inl e ↦ subst (Follows m) (sym e) (follows_itself m) | inr e ↦ subst (Follows m) (sym e) f ])

-- a write that was not made leaves it in step, if what it would leave follows
pub not_made : (m : List ℕ) (p v : ℕ) (d d₁ : DiskState) → Follows m (set m p v) → Kept false p v d d₁ → InStep d m → InStep d₁ m
not_made m p v d d₁ f (inl same) in_step = subst (λ (x : DiskState). InStep x m) (sym same) in_step
not_made m p v d d₁ f (inr (none, asked)) in_step =
    subst (λ (x : DiskState). InStep x m) (sym (asked ∙ ap (λ (s : List ℕ). record { settled = s; pending = record { place = p; value = v } ∷ [] }) in_step.0)) (waits_in_step m p v f)

-- one that was made does
pub made : (m : List ℕ) (p v : ℕ) (d d₁ : DiskState) → Kept true p v d d₁ → InStep d m → InStep d₁ (set m p v)
made m p v d d₁ k in_step =
    subst (λ (x : DiskState). InStep x (set m p v)) (sym (k.1 ∙ ap (λ (s : List ℕ). still (set s p v)) in_step.0)) (still_in_step (set m p v))

-- a count without its check may be found in the place of what was there, and a count with its check in the place of it alone
pub count_follows : (m : List ℕ) → sound m ≡ true → Follows m (set m (2 * written m) (next m + 1))
count_follows m s = λ _. let one = kept_sound 1 m s in (one.0, one.1, one.2)

pub check_follows : (m : List ℕ) → sound m ≡ true → Follows (set m (2 * written m) (next m + 1)) (set (set m (2 * written m) (next m + 1)) (2 * written m + 1) (check (next m + 1)))
check_follows m s = λ _.
    let one = kept_sound 1 m s in
    let two = kept_sound 2 m s in
    let risen = two.3 (omega arith) in
    (two.0, omega (arith, risen, one.2), omega (arith, risen, one.1))

-- the count was not written
pub none_in_step : (m m₀ : List ℕ) (p k : ℕ) (d d₁ : DiskState) → sound m ≡ true → m₀ ≡ m → p ≡ written m → k ≡ next m → Kept false (2 * p) (k + 1) d d₁ → InStep d m₀ → InStep d₁ m₀
none_in_step m m₀ p k d d₁ s read place key kept = not_made m₀ (2 * p) (k + 1) d d₁ (rw (read, place, key) (count_follows m s)) kept

-- it was, and then its check was or not
pub count_in_step : (m m₀ m₁ m₂ : List ℕ) (ws ws₁ : List Write) (p k v : ℕ) (d d₁ d₂ : DiskState) (ok : Bool) → Counted m m₀ m₁ ws ws₁ p k → v ≡ check (k + 1) → m₂ ≡ left_by (made_if ok (2 * p + 1) v) m₁ →
    Kept true (2 * p) (k + 1) d d₁ → Kept ok (2 * p + 1) v d₁ d₂ → InStep d m₀ → InStep d₂ m₂
count_in_step m m₀ m₁ m₂ ws ws₁ p k v d d₁ d₂ true c q left first second in_step =
    let one = subst (InStep d₁) (sym c.held) (made m₀ (2 * p) (k + 1) d d₁ first in_step) in
    subst (InStep d₂) (sym left) (made m₁ (2 * p + 1) v d₁ d₂ second one)
count_in_step m m₀ m₁ m₂ ws ws₁ p k v d d₁ d₂ false c q left first second in_step =
    let one = subst (InStep d₁) (sym c.held) (made m₀ (2 * p) (k + 1) d d₁ first in_step) in
    subst (InStep d₂) (sym left) (not_made m₁ (2 * p + 1) v d₁ d₂ (rw (c.held, q, c.place, c.key, c.read) (check_follows m c.sound)) second one)
