-- What is promised of the store.
use Rattle.std.proofs.Common.{◌≡◌, ℕ, zero, suc, ◌<◌, ◌≤◌, true, false, ltb, leb, le-leb, lt-ltb, ◌∙◌, take, Some, None, Option, List, [], ◌∷◌, refl, sym, ap, inl, inr, arith}
use Rattle.std.proofs.lemmas.Bool.{cases_Bool, ltb-true, leb-true, leb-false, false≢true}
use Rattle.std.proofs.lemmas.Bool.Decides.{nat_tests}
use Rattle.std.proofs.lemmas.List.{take_all}
use Rattle.keys.specs.declared.refusal.Refusal.{Refusal}
use Rattle.keys.specs.Limits.{max_levels}
use Rattle.tree.specs.Tree.{power}
use Rattle.tree.proofs.Powers.{few_keys}
use Rattle.counter.specs.Answers.{unrefused, reserve_refusal}
use Rattle.counter.specs.Cells.{left_by}
use Rattle.counter.specs.Promises.{Keeps, StoreKept, LeftByWrites, TwoWrites, SlotCounts, NextIsLargest, FirstKey}
use Rattle.counter.specs.declared.write.Write.{Write}
use Rattle.counter.specs.Store.{slot_ok, next, reserved, reserving, sound}
use Rattle.counter.proofs.Counting.{kept, cut_keeps, counting_is, largest}

-- a cut leaves the next key as it was
cut_none : (n : ℕ) (m : List ℕ) → sound m ≡ true → slot_ok m 0 ≡ true → slot_ok m 1 ≡ true → next m < 4294967290 → leb 2 n ≡ false → next (reserved n m) ≡ next m
cut_none zero m s e f u g = refl
cut_none (suc zero) m s e f u g = cut_keeps m s e f u
cut_none (suc (suc n)) m s e f u g = let h = leb-false 2 (suc (suc n)) g in absurd (omega (arith, h))

-- where a key is left
left_keeps : (l n : ℕ) (m : List ℕ) → ltb (next m) (power l) ≡ true → sound m ≡ true → Keeps l m n
left_keeps l n m t s =
    let k = kept n m s in
    let below = ltb-true (next m) (power l) t in
    record {
      stays_sound = rw t k.0;
      no_smaller = rw t k.1;
      one_at_most = rw t k.2;
      one_if_given = λ g. rw t (k.3 (leb-true 2 n (rw t at g)));
      none_if_cut = λ h e f g. rw t (cut_none n m s e f (omega (arith, few_keys l h, below)) (rw t at g));
    }

pub store_kept_lem : StoreKept
store_kept_lem l n m s =
    elim (cases_Bool (ltb (next m) (power l))) [
      | inl t ↦ left_keeps l n m t s
      | inr f ↦ record {
        stays_sound = rw f s;
        no_smaller = rw f (omega arith);
        one_at_most = rw f (omega arith);
        one_if_given = rw f (λ g. absurd (false≢true g));
        none_if_cut = rw f (λ _ _ _ _. refl {a = next m});
      }
    ]

left_by_reserving : (n : ℕ) (m : List ℕ) → reserved n m ≡ left_by (take n (reserving m)) m
left_by_reserving zero m = refl
left_by_reserving (suc zero) m = refl
left_by_reserving (suc (suc n)) m = ap (λ (ws : List Write). left_by ws m) (sym (take_all (suc (suc n)) (reserving m) (omega arith)))

pub left_by_writes_lem : LeftByWrites
left_by_writes_lem l n m =
    elim (cases_Bool (ltb (next m) (power l))) [ inl t ↦ rw t (left_by_reserving n m) | inr f ↦ rw f refl ]

answer_two : (l n : ℕ) (m : List ℕ) (o : Option Refusal) → unrefused l m (suc (suc n)) o ≡ unrefused l m 2 o
answer_two l n m (Some r) = refl
answer_two l n m None = let e : leb 2 (suc (suc n)) ≡ true = grind (arith, nat_tests) in rw e refl

pub two_writes_lem : TwoWrites
two_writes_lem l zero m h = absurd (omega arith)
two_writes_lem l (suc zero) m h = absurd (omega arith)
two_writes_lem l (suc (suc n)) m h = (answer_two l n m (reserve_refusal l m), refl)

pub slot_counts_lem : SlotCounts
slot_counts_lem = counting_is

pub next_is_largest_lem : NextIsLargest
next_is_largest_lem = largest

some_key : (l : ℕ) → 1 ≤ power l
some_key zero = omega arith
some_key (suc l) = omega (arith, some_key l)

pub first_key_lem : FirstKey
first_key_lem l n h w =
    let two = two_writes_lem l n (0 ∷ 3 ∷ 0 ∷ 3 ∷ []) w in
    let e : leb l max_levels ≡ true = le-leb l max_levels h in
    let f : leb 0 (power l) ≡ true = le-leb 0 (power l) (omega arith) in
    let g : ltb 0 (power l) ≡ true = lt-ltb 0 (power l) (some_key l) in
    (two.0 ∙ rw (e, f, g) refl, two.1 ∙ rw (e, f, g) refl)
