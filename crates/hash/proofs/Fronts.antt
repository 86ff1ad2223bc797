-- A row that is written from its front on: what stands before the place that is written next, and what stands behind it.
use Rattle.std.proofs.Common.{◌≡◌, ℕ, ◌+◌, ◌<◌, List, [], ◌∷◌, ◌++◌, map, length, take, drop, set, sym, ap, ◌∙◌, arith}
use Rattle.std.proofs.lemmas.List.{drop-drop, drop-set-lt, map-append, take_more_set}

-- the front is longer by what is written
pub front_more : {X Y : Type 0} (f : X → Y) (xs : List X) (k : ℕ) (x : X) → k < length xs → map f (take (k + 1) (set xs k x)) ≡ map f (take k xs) ++ (f x ∷ [])
front_more f xs k x h = ap (map f) (take_more_set xs k x h) ∙ map-append f (take k xs) (x ∷ [])

-- and what stands behind it is as it was
pub behind_more : (X : Type 0) (xs ys : List X) (k : ℕ) (x : X) → drop k xs ≡ drop k ys → drop (k + 1) (set xs k x) ≡ drop (k + 1) ys
behind_more X xs ys k x e =
    let far : k < k + 1 = omega arith in
    drop-set-lt (k + 1) xs k x far ∙ (sym (drop-drop 1 k xs) ∙ (ap (λ (zs : List X). drop 1 zs) e ∙ drop-drop 1 k ys))
