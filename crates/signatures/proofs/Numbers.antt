-- What each number of a signature of the signer's own is: a secret number, or the hash of a row of its tree that is not a secret number's.
use Rattle.std.proofs.Common.{◌≡◌, ℕ, zero, suc, ◌+◌, ◌/◌, ◌<◌, Bool, false, not, ◌⊎◌, List, ◌∷◌, length, get_or, refl, inl, inr, zero-add, arith}
use Rattle.hash.specs.Members.{In}
use Rattle.hash.specs.Mix.{Mix}
use Rattle.hash.proofs.Members.{In-append}
use Rattle.keys.specs.Keys.{secret, shown, leaf}
use Rattle.tree.specs.Tree.{power, node, beside, path_from}
use Rattle.tree.proofs.Walks.{beside_below}
use Rattle.signatures.specs.Rows.{OwnRow, own_shown, own_leaf, own_node}
use Rattle.signatures.specs.Signatures.{numbers, parts_from, others_from, signed}
use Rattle.signatures.proofs.Each.{In-each}

in_path : (h : Mix) (n s l d u x v : ℕ) → d + u ≡ l → x < power u → In v (path_from h n s d u x) →
    (c : ℕ) × (k : ℕ) × (y : ℕ) × (c + k ≡ l) × (y < power k) × (v ≡ node h n s c y)
unfolding path_from
in_path h n s l d zero x v f k i = absurd i
in_path h n s l d (suc u) x v f k (inl e) = (d, suc u, beside x, f, beside_below x (power u) k, e)
in_path h n s l d (suc u) x v f k (inr i) = in_path h n s l (suc d) u (x / 2) v (omega arith) (omega arith) i

-- the hash of a row of the tree that is not one of a secret number
abbrev pub Other : Mix → (n s l v : ℕ) → Type 0
Other h n s l v = (a : List ℕ) × OwnRow h n s l a × (v ≡ h a) × ((r : List ℕ) → a ≡ 0 ∷ r → ⊥)

node_other : (h : Mix) (n s l c k y : ℕ) → c + k ≡ l → y < power k → Other h n s l (node h n s c y)
unfolding node leaf
node_other h n s l zero k y f b =
    let g : k ≡ l = omega arith in (_, own_leaf y (rw g at b), refl, λ r e. cc)
node_other h n s l (suc c) k y f b = (_, own_node c k y f b, refl, λ r e. cc)

shown_other : (h : Mix) (n s l i j : ℕ) (t : Bool) → i < power l → j < n → Other h n s l (shown h (secret h s i j t))
unfolding shown
shown_other h n s l i j t a b = (_, own_shown i j t a b, refl, λ r e. cc)

pub number_of : (h : Mix) (n s l i : ℕ) (bs : List Bool) (v : ℕ) → i < power l → length bs ≡ n → In v (numbers (signed h s l i bs)) →
    ((j : ℕ) × (j < n) × (v ≡ secret h s i j (get_or bs j false))) ⊎ Other h n s l v
unfolding signed
number_of h n s l i bs v a e x =
    elim (In-append v (parts_from h s i 0 bs) _ x) [
      | inl y ↦ let r = In-each (secret h s i) 0 bs v y in inl (r.0, omega arith, rw zero-add at r.2)
      | inr z ↦
          inr
          (elim (In-append v (others_from h s i 0 bs) _ z) [
            | inl y ↦
                let r = In-each (λ k b. shown h (secret h s i k (not b))) 0 bs v y in
                rw r.2 (shown_other h n s l i (0 + r.0) (not (get_or bs r.0 false)) a (omega arith))
            | inr y ↦
                let r = in_path h n s l 0 l i v (omega arith) a (rw e at y) in rw r.5 (node_other h n s l r.0 r.1 r.2 r.3 r.4)
          ])
    ]
