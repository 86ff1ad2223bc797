-- Runs of requests: the keys that are given rise.
use Rattle.std.proofs.Common.{◌≡◌, ℕ, ◌+◌, ◌<◌, ◌≤◌, true, false, leb, ◌⊎◌, List, [], ◌∷◌, ◌++◌, map, length, Some, None, Option, sym, refl, ap, subst, inl, inr, arith}
use Rattle.std.proofs.lemmas.Bool.Decides.{nat_tests}
use Rattle.std.proofs.lemmas.Bool.{cases_Bool}
use Rattle.hash.specs.Members.{In, Rising}
use Rattle.hash.proofs.Members.{In-append, from_map, one_each}
use Rattle.keys.specs.Limits.{max_levels, max_bits}
use Rattle.keys.specs.declared.refusal.Refusal.{Refusal}
use Rattle.keys.proofs.Refused.{levels_taken, bits_taken}
use Rattle.tree.specs.Tree.{power}
use Rattle.counter.specs.Answers.{unrefused, unless_refused}
use Rattle.signer.specs.Answers.{refusal}
use Rattle.signer.specs.Promises.{KeysRise, OneRow}
use Rattle.signer.specs.Runs.{Request, Issued, answered, after, issued, given}
use Rattle.counter.specs.Store.{next, sound, step, gives}
use Rattle.counter.proofs.Counts.{step_kept}
use Rattle.signer.proofs.Entries.{taken}

-- what one request gives, at most one key, and the store after it
pub record Steps {Q : Type 0} (g : List ℕ → Q → List Issued) (t : List ℕ → Q → List ℕ) : Type 0 where
  pub stays : (m : List ℕ) (q : Q) → sound m ≡ true → (sound (t m q) ≡ true) × (next m ≤ next (t m q))
  pub one : (m : List ℕ) (q : Q) → sound m ≡ true → (g m q ≡ []) ⊎ ((a : Issued) × (g m q ≡ a ∷ []) × (a.key ≡ next m) × (next (t m q) ≡ next m + 1))

-- all that a run gives
unfoldable pub run : {Q : Type 0} → (List ℕ → Q → List Issued) → (List ℕ → Q → List ℕ) → List ℕ → List Q → List Issued
run g t m [] = []
run g t m (q ∷ qs) = g m q ++ run g t (t m q) qs

-- what holds of all that each request gives holds of all that a run gives
pub run_all : {Q : Type 0} (g : List ℕ → Q → List Issued) (t : List ℕ → Q → List ℕ) (P : Issued → Type 0) → ((m : List ℕ) (q : Q) (a : Issued) → In a (g m q) → P a) →
    (m : List ℕ) (qs : List Q) (a : Issued) → In a (run g t m qs) → P a
unfolding run
run_all g t P each m [] a i = absurd i
run_all g t P each m (q ∷ qs) a i = elim (In-append a (g m q) _ i) [ inl j ↦ each m q a j | inr j ↦ run_all g t P each (t m q) qs a j ]

module _ {Q : Type 0} (g : List ℕ → Q → List Issued) (t : List ℕ → Q → List ℕ) (u : Steps g t) where
  -- no key that is given lies below the next one
  least : (m : List ℕ) (qs : List Q) (a : Issued) → sound m ≡ true → In a (run g t m qs) → next m ≤ a.key
  unfolding run
  least m [] a s i = absurd i
  least m (q ∷ qs) a s i =
      let k = u.stays m q s in
      elim (In-append a (g m q) _ i) [
        | inl j ↦
            elim (u.one m q s) [
              | inl e ↦ absurd (rw e at j)
              | inr o ↦
                  elim (rw o.1 at j) [ inl e ↦ let f = ap (λ (x : Issued). x.key) e in omega (arith, o.2) | inr x ↦ absurd x ]
            ]
        | inr j ↦ let r = least (t m q) qs a k.0 j in omega arith
      ]

  pub rising : (m : List ℕ) (qs : List Q) → sound m ≡ true → Rising (map (λ (a : Issued). a.key) (run g t m qs))
  unfolding run
  rising m [] s = tt
  rising m (q ∷ qs) s =
      let k = u.stays m q s in
      elim (u.one m q s) [
        | inl e ↦ rw e (rising (t m q) qs k.0)
        | inr o ↦
            rw o.1 (
              λ y i.
                  let b = from_map (λ (a : Issued). a.key) y (run g t (t m q) qs) i in
                  let r = least (t m q) qs b.0 k.0 b.1 in omega (arith, o.2, o.3, b.2),
              rising (t m q) qs k.0,
            )
      ]

-- what the entry that signs gives for one request
request_issued : List ℕ → Request → List Issued
request_issued m q = issued q (answered m q)

given_is : (m : List ℕ) (qs : List Request) → given m qs ≡ run request_issued after m qs
unfolding run request_issued
given_is m [] = refl
given_is m (q ∷ qs) = ap (λ (r : List Issued). issued q (answered m q) ++ r) (given_is (after m q) qs)

-- one request at a sound store, by its first refusal
request_one : (l w : ℕ) (m : List ℕ) (q : Request) (o : Option Refusal) → sound m ≡ true →
    (issued q (unrefused l m w o) ≡ []) ⊎ ((a : Issued) × (issued q (unrefused l m w o) ≡ a ∷ []) × (a.key ≡ next m) × (next (unless_refused o m (step l m w)) ≡ next m + 1))
request_one l w m q (Some r) s = inl refl
request_one l w m q None s =
    elim (cases_Bool (gives l m w)) [
      | inl t ↦ rw t (inr (record { key = next m; request = q }, refl, refl, (step_kept l m w s).2 t))
      | inr f ↦ rw f (inl (grind arith))
    ]

request_stays : (l w : ℕ) (m : List ℕ) (o : Option Refusal) → sound m ≡ true →
    (sound (unless_refused o m (step l m w)) ≡ true) × (next m ≤ next (unless_refused o m (step l m w)))
request_stays l w m (Some r) s = (s, omega arith)
request_stays l w m None s = let k = step_kept l m w s in (k.0, k.1)

request_steps : Steps request_issued after
unfolding request_issued
request_steps =
    record {
      stays = λ m q s. request_stays q.levels q.lasts m (refusal q.levels m (length q.bits)) s;
      one = λ m q s. request_one q.levels q.lasts m q (refusal q.levels m (length q.bits)) s;
    }

-- from a store that is not sound nothing is given
unsound_refused : (l n : ℕ) (m : List ℕ) → sound m ≡ false → (e : Refusal) × (refusal l m n ≡ Some e)
unsound_refused l n m s =
    elim (cases_Bool (leb l max_levels)) [ inl t ↦ rw (t, s) (_, refl) | inr f ↦ rw f (_, refl) ]

unsound_none : (m : List ℕ) (qs : List Request) → sound m ≡ false → given m qs ≡ []
unsound_none m [] s = refl
unsound_none m (q ∷ qs) s =
    rw (unsound_refused q.levels (length q.bits) m s).1 (unsound_none m qs s)

pub keys_rise_lem : KeysRise
keys_rise_lem m qs =
    elim (cases_Bool (sound m)) [
      | inl s ↦ rw (given_is m qs) (rising request_issued after request_steps m qs s)
      | inr f ↦ rw (unsound_none m qs f) tt
    ]

pub one_row_lem : OneRow
one_row_lem m qs a b i j e = ap (λ (x : Issued). x.request.bits) (one_each (λ (x : Issued). x.key) (given m qs) a b (keys_rise_lem m qs) i j e)

-- a key that is given is one of the tree's
unrefused_below : (l w : ℕ) (m : List ℕ) (q : Request) (o : Option Refusal) (x : Issued) → In x (issued q (unrefused l m w o)) → (x.key < power l) × (x.request ≡ q)
unrefused_below l w m q (Some r) x i = absurd i
unrefused_below l w m q None x i = grind (arith, nat_tests)

pub given_below : (m : List ℕ) (qs : List Request) (a : Issued) → In a (given m qs) → a.key < power a.request.levels
unfolding request_issued
given_below m qs a i =
    run_all request_issued after (λ (x : Issued). x.key < power x.request.levels)
    (λ k q x j.
    let b = unrefused_below q.levels q.lasts k q (refusal q.levels k (length q.bits)) x j in
    subst (λ (y : Request). x.key < power y.levels) (sym b.1) b.0)
    m qs a (rw (given_is m qs) at i)

-- and it is of a tree and for bits within the limits
unrefused_none : (l w : ℕ) (m : List ℕ) (q : Request) (o : Option Refusal) (x : Issued) → In x (issued q (unrefused l m w o)) → (None ≡ o) × (x.request ≡ q)
unrefused_none l w m q (Some r) x i = absurd i
unrefused_none l w m q None x i = (refl, (unrefused_below l w m q None x i).1)

pub given_within : (m : List ℕ) (qs : List Request) (a : Issued) → In a (given m qs) → (a.request.levels ≤ max_levels) × (length a.request.bits ≤ max_bits)
unfolding request_issued
given_within m qs a i =
    run_all request_issued after (λ (x : Issued). (x.request.levels ≤ max_levels) × (length x.request.bits ≤ max_bits))
    (λ k q x j.
    let b = unrefused_none q.levels q.lasts k q (refusal q.levels k (length q.bits)) x j in
    let t = taken q.levels k (length q.bits) b.0 in
    subst (λ (y : Request). (y.levels ≤ max_levels) × (length y.bits ≤ max_bits)) (sym b.1) (levels_taken q.levels t.0, (bits_taken (length q.bits) t.3).1))
    m qs a (rw (given_is m qs) at i)
