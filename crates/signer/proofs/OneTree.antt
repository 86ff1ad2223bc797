-- Runs of requests to one tree, as runs that give keys.
use Rattle.std.proofs.Common.{◌≡◌, ℕ, ◌+◌, ◌<◌, Bool, true, false, cond, ltb, ◌⊎◌, List, [], ◌∷◌, map, sym, refl, ap, ◌∙◌, subst, inl, inr, arith}
use Rattle.std.proofs.lemmas.Bool.{and_parts, ltb-true}
use Rattle.hash.specs.Members.{In, Rising}
use Rattle.hash.proofs.Members.{In-append, In_left, In_right, one_each}
use Rattle.tree.specs.Tree.{power}
use Rattle.signer.specs.OneTree.{Asked, sign, KeyGiven, NeverTwice}
use Rattle.signer.specs.Runs.{Request, Issued}
use Rattle.counter.specs.Store.{next, sound, step, gives}
use Rattle.counter.proofs.Counts.{step_kept}
use Rattle.signer.proofs.Runs.{Steps, run, rising}

-- what a request gives, where the test t says that it does
abbrev issued_if : Bool → ℕ → Request → List Issued
issued_if t k q = cond t (record { key = k; request = q } ∷ []) []

abbrev request_of : ℕ → Asked → Request
request_of l (sign c w) = record { levels = l; bits = c; lasts = w }

abbrev issued_of : ℕ → List ℕ → Asked → List Issued
issued_of l m x = issued_if (gives l m (request_of l x).lasts) (next m) (request_of l x)

abbrev after_of : ℕ → List ℕ → Asked → List ℕ
after_of l m x = step l m (request_of l x).lasts

abbrev pub gathered : ℕ → List ℕ → List Asked → List Issued
gathered l m xs = run (issued_of l) (after_of l) m xs

if_one : (t : Bool) (k a : ℕ) (q : Request) → (t ≡ true → a ≡ k + 1) → (issued_if t k q ≡ []) ⊎ ((x : Issued) × (issued_if t k q ≡ x ∷ []) × (x.key ≡ k) × (a ≡ k + 1))
if_one true k a q h = inr (record { key = k; request = q }, refl, refl, h refl)
if_one false k a q h = inl refl

asked_steps : (l : ℕ) → Steps (issued_of l) (after_of l)
asked_steps l =
    record {
      stays = λ m x s. let k = step_kept l m (request_of l x).lasts s in (k.0, k.1);
      one = λ m x s. if_one (gives l m (request_of l x).lasts) (next m) _ (request_of l x) (step_kept l m (request_of l x).lasts s).2;
    }

pub gathered_rise : (l : ℕ) (m : List ℕ) (xs : List Asked) → sound m ≡ true → Rising (map (λ (a : Issued). a.key) (gathered l m xs))
gathered_rise l m xs s = rising (issued_of l) (after_of l) (asked_steps l) m xs s

-- a key that is given is gathered, and what is gathered was given
pub gathers : (l : ℕ) (m : List ℕ) (xs : List Asked) (i : ℕ) (b : List Bool) → KeyGiven l m xs i b →
    (a : Issued) × In a (gathered l m xs) × (a.key ≡ i) × (a.request.bits ≡ b)
unfolding run
gathers l m [] i b g = absurd g
gathers l m (sign c w ∷ xs) i b (inl g) =
    let q : Request = record { levels = l; bits = c; lasts = w } in
    (record { key = next m; request = q }, In_left _ (issued_if (gives l m w) (next m) q) _ (rw g.0 (inl refl)), g.1, g.2)
gathers l m (sign c w ∷ xs) i b (inr g) =
    let r = gathers l (step l m w) xs i b g in (r.0, In_right _ (issued_if (gives l m w) (next m) (request_of l (sign c w))) _ r.1, r.2, r.3)

from_if : (t : Bool) (k : ℕ) (q : Request) (a : Issued) → In a (issued_if t k q) → (t ≡ true) × (a ≡ record { key = k; request = q })
from_if t k q a i = grind arith

pub was_given : (l : ℕ) (m : List ℕ) (xs : List Asked) (a : Issued) → In a (gathered l m xs) →
    KeyGiven l m xs a.key a.request.bits × (a.request.levels ≡ l) × (a.key < power l)
unfolding run
was_given l m [] a i = absurd i
was_given l m (sign c w ∷ xs) a i =
    elim (In-append a (issued_if (gives l m w) (next m) (request_of l (sign c w))) _ i) [
      | inl j ↦
          let f = from_if (gives l m w) (next m) (request_of l (sign c w)) a j in
          let k = ap (λ (x : Issued). x.key) f.1 in
          let below = ltb-true _ _ (and_parts (ltb (next m) (power l)) _ f.0).0 in
          (inl (f.0, sym k, sym (ap (λ (x : Issued). x.request.bits) f.1)), ap (λ (x : Issued). x.request.levels) f.1, subst (λ (y : ℕ). y < power l) (sym k) below)
      | inr j ↦ let r = was_given l (step l m w) xs a j in (inr r.0, r.1, r.2)
    ]

pub never_twice_lem : NeverTwice
never_twice_lem l m xs i b c s g h =
    let x = gathers l m xs i b g in
    let y = gathers l m xs i c h in
    let e = one_each (λ (a : Issued). a.key) (gathered l m xs) x.0 y.0 (gathered_rise l m xs s) x.1 y.1 (x.2 ∙ sym y.2) in
    sym x.3 ∙ (ap (λ (a : Issued). a.request.bits) e ∙ y.3)
