-- The rows that hashers have taken in, for any relation between states and rows.
use Rattle.std.proofs.Common.{◌≡◌, ℕ, zero, suc, ◌<◌, List, [], ◌∷◌, ◌++◌, map, length, take, drop, set, get_or, sym, ap, subst, arith}
use Rattle.std.proofs.lemmas.List.{append_assoc}
use Rattle.std.specs.List.{AllZip}
use Rattle.hash.specs.Rows.{longer}

-- two numbers, one after the other
pub held_two : {S : Type 0} (holds : S → List ℕ → Type 0) (xs : List ℕ) (v w : ℕ) (a b c : S) → holds a xs →
    ((ys : List ℕ) → holds a ys → holds b (ys ++ (v ∷ []))) → ((ys : List ℕ) → holds b ys → holds c (ys ++ (w ∷ []))) → holds c (xs ++ (v ∷ w ∷ []))
held_two holds xs v w a b c h f g = rw (append_assoc xs (v ∷ []) (w ∷ [])) at (g (xs ++ (v ∷ [])) (f xs h))

module _ {S : Type 0} (holds : S → List ℕ → Type 0) where
  -- of hashers side by side, of which the first i have taken in a number more, the next one does
  pub longer_more : (ss : List S) (rows : List (List ℕ)) (xs : List ℕ) (i v : ℕ) (s d : S) → i < length ss → i < length xs → get_or xs i 0 ≡ v →
      ((row : List ℕ) → holds (get_or ss i d) row → holds s (row ++ (v ∷ []))) → AllZip holds ss (longer (take i rows) (take i xs) ++ drop i rows) →
      AllZip holds (set ss i s) (longer (take (suc i) rows) (take (suc i) xs) ++ drop (suc i) rows)
  longer_more [] rows xs i v s d a b e f h = absurd (omega arith)
  longer_more (t ∷ ss) rows [] i v s d a b e f h = absurd (omega arith)
  longer_more (t ∷ ss) [] (x ∷ xs) zero v s d a b e f h = absurd h
  longer_more (t ∷ ss) [] (x ∷ xs) (suc i) v s d a b e f h = absurd h
  longer_more (t ∷ ss) (row ∷ rows) (x ∷ xs) zero v s d a b e f h = (subst (λ (n : ℕ). holds s (row ++ (n ∷ []))) (sym e) (f row h.0), h.1)
  longer_more (t ∷ ss) (row ∷ rows) (x ∷ xs) (suc i) v s d a b e f h = (h.0, longer_more ss rows xs i v s d (omega arith) (omega arith) e f h.1)

  -- and the hash of the row that one of them has taken in
  pub hashed_more : (mix : List ℕ → ℕ) (ss : List S) (rows : List (List ℕ)) (i v : ℕ) (d : S) → i < length ss → AllZip holds ss rows →
      ((row : List ℕ) → holds (get_or ss i d) row → v ≡ mix row) → map mix (take i rows) ++ (v ∷ []) ≡ map mix (take (suc i) rows)
  hashed_more mix [] rows i v d a h f = absurd (omega arith)
  hashed_more mix (t ∷ ss) [] i v d a h f = absurd h
  hashed_more mix (t ∷ ss) (row ∷ rows) zero v d a h f = ap (λ (n : ℕ). n ∷ []) (f row h.0)
  hashed_more mix (t ∷ ss) (row ∷ rows) (suc i) v d a h f = ap (λ (ns : List ℕ). mix row ∷ ns) (hashed_more mix ss rows i v d (omega arith) h.1 f)
