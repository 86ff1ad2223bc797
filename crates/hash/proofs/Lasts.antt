-- The last element of a list of which something does not hold.
use Rattle.std.proofs.Common.{◌≡◌, All, List, [], ◌∷◌, ◌++◌}
use Rattle.std.proofs.lemmas.List.Elements.{All-head, All-tail}

module _ {A : Type 0} (P : A → Type 0) where
  -- what holds of all holds of one in the middle
  pub All_at : (xs ys : List A) (x : A) → All P (xs ++ (x ∷ ys)) → P x
  All_at [] ys x all = All-head P x ys all
  All_at (y ∷ xs) ys x all = All_at xs ys x (All-tail P y (xs ++ (x ∷ ys)) all)

  -- there is one last element of which it does not hold
  pub one_last : (xs us ys vs : List A) (x u : A) → xs ++ (x ∷ ys) ≡ us ++ (u ∷ vs) → (P x → ⊥) → (P u → ⊥) → All P ys → All P vs → x ≡ u
  one_last [] [] ys vs x u e p q a b = cc
  one_last [] (w ∷ us) ys vs x u e p q a b = let rest : ys ≡ us ++ (u ∷ vs) = cc in absurd (q (All_at us vs u (rw rest at a)))
  one_last (y ∷ xs) [] ys vs x u e p q a b = let rest : xs ++ (x ∷ ys) ≡ vs = cc in absurd (p (All_at xs ys x (rw (← rest) at b)))
  one_last (y ∷ xs) (w ∷ us) ys vs x u e p q a b = let rest : xs ++ (x ∷ ys) ≡ us ++ (u ∷ vs) = cc in one_last xs us ys vs x u rest p q a b
