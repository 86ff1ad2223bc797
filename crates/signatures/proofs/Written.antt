-- Rows that are written piece by piece.
use Rattle.std.proofs.Common.{◌≡◌, ℕ, zero, suc, ◌+◌, ◌-◌, ◌*◌, ◌/◌, ◌%◌, ◌<◌, ◌≤◌, Bool, List, [], ◌++◌, map, length, get_or, take, drop, sym, ap, ◌∙◌, zero-add, arith}
use Rattle.std.specs.Simd.{first_chunks}
use borrow.Rule.Slice.PartMut.{put_mid}
use Rattle.std.proofs.Math.Nat.{mul-zero, mul-suc}
use Rattle.std.proofs.lemmas.Slice.{take-put_mid, drop-put_mid}
use Rattle.std.proofs.Math.Seq.{take-add, take-append-add, drop-append-add}
use Rattle.std.proofs.lemmas.List.{append-nil, drop-drop, length-drop, length-map, length-take, length-take-le, map-append, take-append-le, take_all, take_rest}
use Rattle.std.proofs.Math.ListN.{drop_of_length-le}
use Rattle.signatures.specs.Signatures.{each_from}
use Rattle.signatures.proofs.Each.{each_append, length-each}

-- the numbers of a piece of the bits more
pub each_piece : {X : Type 0} (v : X → ℕ) (f : ℕ → Bool → ℕ) (bs piece : List Bool) (front new : List X) (a m n : ℕ) → n ≡ a + m → a ≤ length bs → piece ≡ take m (drop a bs) → map v new ≡ each_from f a piece →
    map v front ≡ each_from f 0 (take a bs) → map v (front ++ new) ≡ each_from f 0 (take n bs)
each_piece v f bs piece front new a m n e l cut now so_far =
    let long : 0 + length (take a bs) ≡ a = zero-add _ ∙ length-take-le a bs l in
    let more = take-add a m bs in
    map-append v front new ∙ rw (so_far, now, cut, e, more) (sym (each_append f 0 (take a bs) (take m (drop a bs)) a long))

-- what stands behind a piece more is as it was
pub behind_piece : {X : Type 0} (xs ys : List X) (a m n : ℕ) → n ≡ a + m → drop a xs ≡ drop a ys → drop n xs ≡ drop n ys
behind_piece xs ys a m n e same = rw e (sym (drop-drop m a xs) ∙ (ap (λ (zs : List _). drop m zs) same ∙ drop-drop m a ys))

-- a chunk of a list
pub chunk_at : {X : Type 0} (n k i : ℕ) (xs d : List X) → i < k → get_or (first_chunks n k xs) i d ≡ take n (drop (n * i) xs)
chunk_at n zero i xs d h = absurd (omega arith)
chunk_at n (suc k) zero xs d h = ap (λ (j : ℕ). take n (drop j xs)) (sym (mul-zero n))
chunk_at n (suc k) (suc i) xs d h = chunk_at n k i (drop n xs) d (omega arith) ∙ ap (take n) (drop-drop (n * i) n xs ∙ ap (λ (j : ℕ). drop j xs) (omega (arith, mul-suc n i)))

-- of a row whose back was written from a on, the front up to n, and what stands behind that
pub take_back : {X : Type 0} (xs ys more : List X) (a m n : ℕ) → n ≡ a + m → a ≤ length xs → m ≤ length ys → take n (take a xs ++ (ys ++ more)) ≡ take a xs ++ take m ys
take_back xs ys more a m n e la lm =
    let at : n ≡ length (take a xs) + m = omega (arith, e, length-take-le a xs la) in
    rw at (take-append-add (take a xs) (ys ++ more) m ∙ ap (λ (zs : List _). take a xs ++ zs) (take-append-le m ys more lm))

pub drop_back : {X : Type 0} (xs ys : List X) (a m n : ℕ) → n ≡ a + m → a ≤ length xs → drop m ys ≡ drop m (take (length xs - a) (drop a xs)) →
    drop n (take a xs ++ (ys ++ drop (length xs - a) (drop a xs))) ≡ drop n xs
drop_back xs ys a m n e la same =
    let at : n ≡ length (take a xs) + m = omega (arith, e, length-take-le a xs la) in
    let none : drop (length xs - a) (drop a xs) ≡ [] = drop_of_length-le (drop a xs) (omega (arith, length-drop a xs)) in
    ap (λ (i : ℕ). drop i (take a xs ++ (ys ++ drop (length xs - a) (drop a xs)))) at
    ∙ (drop-append-add (take a xs) (ys ++ drop (length xs - a) (drop a xs)) m
    ∙ (ap (λ (zs : List _). drop m (ys ++ zs)) none
    ∙ (ap (λ (zs : List _). drop m zs) (append-nil ys)
    ∙ (same ∙ (ap (λ (zs : List _). drop m zs) (take_rest xs a) ∙ (drop-drop m a xs ∙ ap (λ (i : ℕ). drop i xs) (sym e)))))))

-- eight more
pub eight_more : {X : Type 0} (v : X → ℕ) (f : ℕ → Bool → ℕ) (bs d : List Bool) (chunks : List (List Bool)) (xs own now : List X) (i k : ℕ) →
    chunks ≡ first_chunks 8 (length bs / 8) bs → i < length bs / 8 → length bs ≤ length xs → now ≡ own → length own ≡ 8 → map v own ≡ each_from f (8 * i) (get_or chunks i d) →
    map v (take (8 * i) xs) ≡ each_from f 0 (take (8 * i) bs) → map v (take (8 * (i + 1)) (put_mid (8 * i) k xs now)) ≡ each_from f 0 (take (8 * (i + 1)) bs)
eight_more v f bs d chunks xs own now i k front h long same eight e so_far =
    let cut : get_or chunks i d ≡ take 8 (drop (8 * i) bs) = rw front (chunk_at 8 (length bs / 8) i bs d h) in
    let lnow : length now ≡ 8 = ap length same ∙ eight in
    ap (map v) (take-put_mid (8 * i) k xs now (8 * (i + 1)) (omega arith) (omega arith))
    ∙ each_piece v f bs (get_or chunks i d) (take (8 * i) xs) now (8 * i) 8 (8 * (i + 1)) (omega arith) (omega arith) cut (ap (map v) same ∙ e) so_far

pub behind_eight : {X : Type 0} (xs ys own now : List X) (i : ℕ) → 8 * i + 8 ≤ length xs → now ≡ own → length own ≡ 8 → drop (8 * i) xs ≡ drop (8 * i) ys →
    drop (8 * (i + 1)) (put_mid (8 * i) (8 * i + 8 - 8 * i) xs now) ≡ drop (8 * (i + 1)) ys
behind_eight xs ys own now i long same eight rest =
    let lnow : length now ≡ 8 = ap length same ∙ eight in
    drop-put_mid (8 * i) (8 * i + 8 - 8 * i) xs now (8 * (i + 1)) (omega arith) (omega arith) (omega arith) ∙ behind_piece xs ys (8 * i) 8 (8 * (i + 1)) (omega arith) rest

-- the odd rest
pub odd_more : {X : Type 0} (v : X → ℕ) (f : ℕ → Bool → ℕ) (bs odd : List Bool) (xs now more : List X) (a c : ℕ) →
    a ≡ 8 * c → c ≡ length bs / 8 → odd ≡ drop (length bs / 8 * 8) bs → length bs ≤ length xs → map v (take (length odd) now) ≡ each_from f a odd →
    map v (take a xs) ≡ each_from f 0 (take a bs) → map v (take (length bs) (take a xs ++ (now ++ more))) ≡ each_from f 0 bs
odd_more v f bs odd xs now more a c ea ec back long e so_far =
    let here : odd ≡ drop a bs = back ∙ ap (λ (j : ℕ). drop j bs) (omega arith) in
    let count : length bs ≡ a + length odd = omega (arith, ap length here, length-drop a bs) in
    let lnow : length odd ≤ length now = omega (arith, ap length e, length-map (take (length odd) now) v, length-each f a odd, length-take (length odd) now) in
    let cut : odd ≡ take (length odd) (drop a bs) = sym (take_all (length odd) odd (omega arith)) ∙ ap (take (length odd)) here in
    ap (map v) (take_back xs now more a (length odd) (length bs) count (omega arith) lnow)
    ∙ (each_piece v f bs odd (take a xs) (take (length odd) now) a (length odd) (length bs) count (omega arith) cut e so_far ∙ ap (each_from f 0) (take_all (length bs) bs (omega arith)))

pub behind_odd : {X : Type 0} (bs odd : List Bool) (xs ys now : List X) (a c : ℕ) →
    a ≡ 8 * c → c ≡ length bs / 8 → length odd ≡ length bs % 8 → length bs ≤ length xs → drop (length odd) now ≡ drop (length odd) (take (length xs - a) (drop a xs)) → drop a xs ≡ drop a ys →
    drop (length bs) (put_mid a (length xs - a) xs now) ≡ drop (length bs) ys
behind_odd bs odd xs ys now a c ea ec lodd long same rest =
    let count : length bs ≡ a + length odd = omega arith in
    drop_back xs now a (length odd) (length bs) count (omega arith) same ∙ behind_piece xs ys a (length odd) (length bs) count rest
