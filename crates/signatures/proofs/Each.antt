-- A number for each bit: how many there are, which, and one more of them.
use Rattle.std.proofs.Common.{◌≡◌, ℕ, zero, suc, ◌+◌, ◌<◌, Bool, false, List, [], ◌∷◌, ◌++◌, map, length, get_or, replicate, take, set, sym, refl, ap, ◌∙◌, inl, inr, add-one, arith}
use Rattle.std.specs.List.{range_with_len}
use Rattle.std.specs.Simd.Lanes.{zip2}
use Rattle.std.proofs.lemmas.Simd.{zip2_splat_left}
use Rattle.std.proofs.lemmas.List.{get_or-map, length-map}
use Rattle.std.proofs.lemmas.List.FromFn.{get_or-map-range_with_len, length-range_with_len, length-map-range_with_len}
use Rattle.hash.specs.Members.{In}
use Rattle.hash.proofs.Fronts.{front_more}
use Rattle.signatures.specs.Signatures.{each_from}

pub length-each : (f : ℕ → Bool → ℕ) (j : ℕ) (bs : List Bool) → length (each_from f j bs) ≡ length bs
unfolding each_from
length-each f j [] = refl
length-each f j (b ∷ bs) = ap suc (length-each f (suc j) bs)

pub each_at : (f : ℕ → Bool → ℕ) (o : ℕ) (bs : List Bool) (j : ℕ) → j < length bs → get_or (each_from f o bs) j 0 ≡ f (o + j) (get_or bs j false)
unfolding each_from
each_at f o [] j k = absurd (omega arith)
each_at f o (b ∷ bs) zero k = ap (λ (y : ℕ). f y b) (omega arith)
each_at f o (b ∷ bs) (suc j) k = each_at f (suc o) bs j (omega arith) ∙ ap (λ (y : ℕ). f y (get_or bs j false)) (omega arith)

pub In-each : (f : ℕ → Bool → ℕ) (o : ℕ) (bs : List Bool) (v : ℕ) → In v (each_from f o bs) → (j : ℕ) × (j < length bs) × (v ≡ f (o + j) (get_or bs j false))
unfolding each_from
In-each f o [] v i = absurd i
In-each f o (b ∷ bs) v (inl e) = (0, omega arith, e ∙ ap (λ (y : ℕ). f y b) (omega arith))
In-each f o (b ∷ bs) v (inr i) =
    let r = In-each f (suc o) bs v i in (suc r.0, omega arith, r.2 ∙ ap (λ (y : ℕ). f y (get_or bs r.0 false)) (omega arith))

each_push : (f : ℕ → Bool → ℕ) (o : ℕ) (bs : List Bool) (k j : ℕ) → k < length bs → o + k ≡ j →
    each_from f o (take (suc k) bs) ≡ each_from f o (take k bs) ++ (f j (get_or bs k false) ∷ [])
unfolding each_from
each_push f o [] k j h e = absurd (omega arith)
each_push f o (b ∷ bs) zero j h e = ap (λ (y : ℕ). f y b ∷ []) (omega arith)
each_push f o (b ∷ bs) (suc k) j h e = ap (λ (ys : List ℕ). f o b ∷ ys) (each_push f (suc o) bs k j (omega arith) (omega arith))

-- one turn of a loop that writes such numbers: v is what x means
pub each_more : {X : Type 0} (v : X → ℕ) (f : ℕ → Bool → ℕ) (o : ℕ) (bs : List Bool) (xs : List X) (k : ℕ) (x : X) → k < length bs → k < length xs → v x ≡ f (o + k) (get_or bs k false) →
    map v (take k xs) ≡ each_from f o (take k bs) → map v (take (k + 1) (set xs k x)) ≡ each_from f o (take (k + 1) bs)
each_more v f o bs xs k x hb hx e so_far =
    let p = each_push f o bs k (o + k) hb refl in front_more v xs k x hx ∙ (rw (so_far, e, add-one k) (sym p))

-- each of them hashed
pub map-each : (s : ℕ → ℕ) (f : ℕ → Bool → ℕ) (o : ℕ) (bs : List Bool) → map s (each_from f o bs) ≡ each_from (λ k b. s (f k b)) o bs
unfolding each_from
map-each s f o [] = refl
map-each s f o (b ∷ bs) = ap (λ (xs : List ℕ). s (f o b) ∷ xs) (map-each s f (suc o) bs)

pub each_append : (f : ℕ → Bool → ℕ) (o : ℕ) (bs cs : List Bool) (k : ℕ) → o + length bs ≡ k → each_from f o (bs ++ cs) ≡ each_from f o bs ++ each_from f k cs
unfolding each_from
each_append f o [] cs k e = ap (λ (y : ℕ). each_from f y cs) (omega arith)
each_append f o (b ∷ bs) cs k e = ap (λ (xs : List ℕ). f o b ∷ xs) (each_append f (suc o) bs cs k (omega arith))

-- a number of many that are given by their places
pub number_at : {X : Type 0} (v : X → ℕ) (f : ℕ → ℕ) (o n k : ℕ) (xs : List X) (d : X) → map v xs ≡ map f (range_with_len o n) → k < n → v (get_or xs k d) ≡ f (o + k)
number_at v f o n k xs d e h =
    let long : k < length xs = omega (arith, h, ap length e, length-map xs v, length-map-range_with_len f o n) in
    sym (get_or-map v xs k d (v d) long) ∙ (ap (λ (ys : List ℕ). get_or ys k (v d)) e ∙ get_or-map-range_with_len f o n k (o + k) (v d) h refl)

-- numbers of one key that are given by their places
pub of_one : {X : Type 0} (v : X → ℕ) (f : ℕ → ℕ → ℕ) (i o n : ℕ) (xs : List X) (js : List ℕ) → js ≡ range_with_len o n → map v xs ≡ zip2 f (replicate n i) js → map v xs ≡ map (f i) (range_with_len o n)
of_one v f i o n xs js places e = e ∙ (ap (λ (ks : List ℕ). zip2 f (replicate n i) ks) places ∙ zip2_splat_left f i n (range_with_len o n) (length-range_with_len o n))
