-- A signature whose numbers lie in one row.
use Rattle.std.proofs.Common.{◌≡◌, ℕ, List, ◌++◌, map, length, take, drop, sym, refl, ◌∙◌}
use Rattle.std.proofs.lemmas.List.{length-map, map-append, take-append-drop}
use Rattle.hash.proofs.Joined.{same_parts}
use Rattle.signatures.specs.Signatures.{Signature, LiesIn}

-- one whose parts are the first n of them, and whose others are the next n. Over elements of any type, of which f says what they mean
pub lies_in : {X : Type 0} (f : X → ℕ) (i n : ℕ) (xs parts behind others path : List X) →
    parts ≡ take n xs → behind ≡ drop n xs → others ≡ take n behind → path ≡ drop n behind → length parts ≡ n → length others ≡ n →
    LiesIn i n (map f xs) (record { key = i; parts = map f parts; others = map f others; path = map f path })
lies_in f i n xs parts behind others path a b c d lp lo =
    let all : parts ++ (others ++ path) ≡ xs = rw (a, c, d, take-append-drop n behind, b) (take-append-drop n xs) in
    (refl, length-map parts f ∙ lp, length-map others f ∙ lo, rw (← map-append f others path, ← map-append f parts (others ++ path), all) refl)

-- there is only one
pub lies_once : (i n : ℕ) (vs : List ℕ) (a b : Signature) → LiesIn i n vs a → LiesIn i n vs b → a ≡ b
lies_once i n vs a b x y =
    let p = same_parts a.parts _ b.parts _ (x.1 ∙ sym y.1) (x.3 ∙ sym y.3) in
    let o = same_parts a.others a.path b.others b.path (x.2 ∙ sym y.2) p.1 in
    let k = x.0 ∙ sym y.0 in
    λ t. record { key = k t; parts = p.0 t; others = o.0 t; path = o.1 t }
