-- A number times a factor, digit by digit from the last one: the carry stands before the digits that are done.
use Rattle.std.proofs.Common.{◌≡◌, ℕ, suc, ◌+◌, ◌*◌, ◌/◌, ◌%◌, ◌^◌, ◌<◌, ◌≤◌, List, [], ◌∷◌, length, get_or, take, drop, set, ap, sym, ◌∙◌, arith}
use native.Mathlib.Nat.{add-mul, mul_assoc, mul_right_comm, pow-zero, pow-succ', div-add-mod', mul-le-mul_right}
use Rattle.std.specs.Int.Digits.{number_from_digits_after, number_from_digits}
use Rattle.std.proofs.lemmas.List.{drop_more, drop-set, get_or-take, length-drop}

-- a number before digits counts for itself, times the base once for each of them
pub before_digits : (b m n : ℕ) (ds : List ℕ) → number_from_digits_after b (m + n) ds ≡ m * b ^ length ds + number_from_digits_after b n ds
before_digits b m n [] = omega (arith, ap (λ k. m * k) (pow-zero b))
before_digits b m n (d ∷ ds) =
    let first : (m + n) * b + d ≡ m * b + (n * b + d) = omega (arith, add-mul m n b) in
    let power : m * b * b ^ length ds ≡ m * b ^ suc (length ds) = mul_assoc m b (b ^ length ds) ∙ ap (λ k. m * k) (sym (pow-succ' b (length ds))) in
    omega (arith, ap (λ k. number_from_digits_after b k ds) first, before_digits b (m * b) (n * b + d) ds, power)

-- one digit more
one_carried : (b f c n x : ℕ) (xs ys : List ℕ) → length xs ≡ length ys → number_from_digits_after b c ys ≡ number_from_digits b xs * f + n →
    number_from_digits_after b (x * f + c) ys ≡ number_from_digits b (x ∷ xs) * f + n
one_carried b f c n x xs ys l e =
    let p = b ^ length xs in
    let first : 0 * b + x ≡ x + 0 = omega arith in
    let number : number_from_digits b (x ∷ xs) ≡ x * p + number_from_digits b xs = ap (λ k. number_from_digits_after b k xs) first ∙ before_digits b x 0 xs in
    let done : number_from_digits_after b (x * f + c) ys ≡ x * f * p + number_from_digits_after b c ys = before_digits b (x * f) c ys ∙ ap (λ k. x * f * b ^ k + number_from_digits_after b c ys) (sym l) in
    omega (arith, done, e, mul_right_comm x f p, ap (λ k. k * f) number, add-mul (x * p) (number_from_digits b xs) f)

-- the digit at place i: its low part is written there, and its high part carried on
pub carried : (b f c n i j g : ℕ) (xs ys : List ℕ) → j ≡ i + 1 → length xs ≡ length ys → i < length xs → g ≡ get_or ys i 0 * f + c → take j ys ≡ take j xs →
    number_from_digits_after b c (drop j ys) ≡ number_from_digits b (drop j xs) * f + n →
    number_from_digits_after b (g / b) (drop i (set ys i (g % b))) ≡ number_from_digits b (drop i xs) * f + n
carried b f c n i j g xs ys s l h w t e =
    let here : i < length ys = omega arith in
    let next : i < j = omega arith in
    let same : get_or ys i 0 ≡ get_or xs i 0 = sym (get_or-take j ys i 0 next) ∙ (ap (λ (zs : List ℕ). get_or zs i 0) t ∙ get_or-take j xs i 0 next) in
    let long : length (drop j xs) ≡ length (drop j ys) = omega (arith, length-drop {A = ℕ}) in
    let more = one_carried b f c n (get_or xs i 0) (drop j xs) (drop j ys) long e in
    let whole : g / b * b + g % b ≡ get_or xs i 0 * f + c = div-add-mod' g b ∙ (w ∙ ap (λ k. k * f + c) same) in
    let written : number_from_digits_after b (g / b) (drop i (set ys i (g % b))) ≡ number_from_digits_after b (g / b * b + g % b) (drop j ys) =
    ap (number_from_digits_after b (g / b)) (drop-set ys i (g % b) here) ∙ ap (λ k. number_from_digits_after b (g / b * b + g % b) (drop k ys)) (sym s) in
    let read : drop i xs ≡ get_or xs i 0 ∷ drop j xs = drop_more xs i 0 h ∙ ap (λ k. get_or xs i 0 ∷ drop k xs) (sym s) in
    written ∙ (ap (λ k. number_from_digits_after b k (drop j ys)) whole ∙ (more ∙ sym (ap (λ zs. number_from_digits b zs * f + n) read)))

-- a carry that is left stands for more than the digits hold
pub left_over : (b c : ℕ) (ds : List ℕ) → 0 < c → b ^ length ds ≤ number_from_digits_after b c ds
left_over b c ds h =
    let one : 1 * b ^ length ds ≤ c * b ^ length ds = mul-le-mul_right (b ^ length ds) h in
    let zero_more : c + 0 ≡ c = omega arith in
    omega (arith, one, ap (λ k. number_from_digits_after b k ds) zero_more, before_digits b c 0 ds)
