-- The walk up: what it does at each step, that it comes to the root along the tree's own path, and the way back down.
use Rattle.std.proofs.Common.{◌≡◌, ℕ, zero, suc, ◌+◌, ◌-◌, ◌*◌, ◌/◌, ◌%◌, ◌^◌, ◌<◌, ◌≤◌, List, ◌∷◌, map, length, get_or, drop, refl, ap, ◌∙◌, inl, inr, arith, shr-shr}
use Rattle.std.proofs.lemmas.List.{drop_more, drop_all}
use Rattle.std.proofs.lemmas.Bool.{cases_eq, eq-eqb, ne_eqb}
use Rattle.hash.specs.Mix.{Mix}
use Rattle.tree.specs.Tree.{power, node_row, node, beside, path_from, fork, up}

pub fork_even : (x v p : ℕ) → x % 2 ≡ 0 → fork x v p ≡ node_row v p
unfolding fork
fork_even x v p e = rw (eq-eqb (x % 2) 0 e)

pub fork_odd : (x v p : ℕ) → (x % 2 ≡ 0 → ⊥) → fork x v p ≡ node_row p v
unfolding fork
fork_odd x v p e = rw (ne_eqb (x % 2) 0 e)

-- the place above one on the way up from a key
pub half_up : (x m : ℕ) → x / 2 ^ m / 2 ≡ x / 2 ^ (m + 1)
half_up x m = shr-shr x m 1

-- one turn of the loop that walks up, and its end
pub up_more : {X : Type 0} (h : Mix) (f : X → ℕ) (x v w : ℕ) (ps : List X) (i : ℕ) (d : X) → i < length ps → w ≡ h (fork (x / 2 ^ i) v (f (get_or ps i d))) →
    up h (map f (drop (i + 1) ps)) (x / 2 ^ (i + 1)) w ≡ up h (map f (drop i ps)) (x / 2 ^ i) v
unfolding up
up_more h f x v w ps i d l e = rw (← half_up x i, drop_more ps i d l, e)

pub up_all : {X : Type 0} (h : Mix) (f : X → ℕ) (x v : ℕ) (ps : List X) (i : ℕ) → length ps ≤ i → up h (map f (drop i ps)) x v ≡ v
unfolding up
up_all h f x v ps i l = rw (drop_all i ps l)

-- the row of a node is made of the two below it, whichever of them is at hand
pub fork_own : (h : Mix) (n s d x : ℕ) → fork x (node h n s d x) (node h n s d (beside x)) ≡ node_row (node h n s d (2 * (x / 2))) (node h n s d (2 * (x / 2) + 1))
unfolding beside fork
fork_own h n s d x =
    elim (cases_eq (x % 2) 0) [
      | inl e ↦ let f : 2 * (x / 2) ≡ x = omega arith in rw (eq-eqb (x % 2) 0 e, f)
      | inr e ↦ let f : 2 * (x / 2) + 1 ≡ x = omega arith in let g : 2 * (x / 2) ≡ x - 1 = omega arith in rw (ne_eqb (x % 2) 0 e, f, g)
    ]

-- two rows made so are equal only if what they are made of is
pub fork_same : (x v p w q : ℕ) → fork x v p ≡ fork x w q → (v ≡ w) × (p ≡ q)
fork_same x v p w q e =
    elim (cases_eq (x % 2) 0) [
      | inl z ↦ let a = fork_even x v p z in let b = fork_even x w q z in (cc, cc)
      | inr z ↦ let a = fork_odd x v p z in let b = fork_odd x w q z in (cc, cc)
    ]

-- and none is a row of another sort
pub fork_tag : (x v p t : ℕ) (r : List ℕ) → fork x v p ≡ t ∷ r → 3 ≡ t
fork_tag x v p t r e = elim (cases_eq (x % 2) 0) [ inl z ↦ let a = fork_even x v p z in cc | inr z ↦ let a = fork_odd x v p z in cc ]

-- the tree's own path leads from a node up to the one above it at the top
pub climbs : (h : Mix) (n s d u x top : ℕ) → u + d ≡ top → x < power u → up h (path_from h n s d u x) x (node h n s d x) ≡ node h n s top 0
unfolding up path_from node
climbs h n s d zero x top e k = ap (λ (y : ℕ). node h n s y x) (omega arith) ∙ ap (λ (y : ℕ). node h n s top y) (omega arith)
climbs h n s d (suc u) x top e k =
    ap (λ (v : ℕ). up h (path_from h n s (suc d) u (x / 2)) (x / 2) v) (ap h (fork_own h n s d x)) ∙ climbs h n s (suc d) u (x / 2) top (omega arith) (omega arith)

pub length-path : (h : Mix) (n s d u x : ℕ) → length (path_from h n s d u x) ≡ u
unfolding path_from
length-path h n s d zero x = refl
length-path h n s d (suc u) x = ap suc (length-path h n s (suc d) u (x / 2))

pub beside_below : (x p : ℕ) → x < 2 * p → beside x < 2 * p
unfolding beside
beside_below x p k = elim (cases_eq (x % 2) 0) [ inl e ↦ rw (eq-eqb (x % 2) 0 e) (omega arith) | inr e ↦ rw (ne_eqb (x % 2) 0 e) (omega arith) ]
