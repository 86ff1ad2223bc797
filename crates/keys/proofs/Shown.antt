-- All that is shown of a key, one bit further.
use Rattle.std.proofs.Common.{◌≡◌, ℕ, zero, suc, ◌+◌, true, false, List, [], ◌∷◌, ◌++◌, ap, zero-add, add-one, arith}
use Rattle.hash.specs.Mix.{Mix}
use Rattle.hash.proofs.Rows.{held_two}
use Rattle.keys.specs.Keys.{secret, shown, shown_all}

pub shown_all_push : (h : Mix) (s i j n k : ℕ) → j + n ≡ k →
    shown_all h s i j (suc n) ≡ shown_all h s i j n ++ (shown h (secret h s i k false) ∷ shown h (secret h s i k true) ∷ [])
unfolding shown_all
shown_all_push h s i j zero k e =
    let f : j ≡ k = omega arith in ap (λ (x : ℕ). shown h (secret h s i x false) ∷ shown h (secret h s i x true) ∷ []) f
shown_all_push h s i j (suc n) k e =
    ap (λ (xs : List ℕ). shown h (secret h s i j false) ∷ shown h (secret h s i j true) ∷ xs) (shown_all_push h s i (suc j) n k (omega arith))

-- one turn of the loop that hashes a leaf, for any relation between states and rows
pub leaf_more : (h : Mix) (s i n v w : ℕ) {S : Type 0} (holds : S → List ℕ → Type 0) (a b c : S) → v ≡ shown h (secret h s i n false) → w ≡ shown h (secret h s i n true) →
    holds a (2 ∷ shown_all h s i 0 n) → ((ys : List ℕ) → holds a ys → holds b (ys ++ (v ∷ []))) → ((ys : List ℕ) → holds b ys → holds c (ys ++ (w ∷ []))) →
    holds c (2 ∷ shown_all h s i 0 (n + 1))
leaf_more h s i n v w holds a b c e d x f g =
    rw (add-one n, shown_all_push h s i 0 n n (zero-add n), ← e, ← d) (held_two holds (2 ∷ shown_all h s i 0 n) v w a b c x f g)
