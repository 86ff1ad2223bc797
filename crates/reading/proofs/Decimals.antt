-- Decimals, one digit further, and what one bad digit or too large a number makes of the whole.
use Rattle.std.proofs.Common.{◌≡◌, ℕ, zero, suc, ◌+◌, ◌-◌, ◌*◌, ◌<◌, ◌≤◌, true, false, ltb, List, [], ◌∷◌, map, length, get_or, take, drop, Some, None, sym, refl, ap, ◌∙◌, arith}
use Rattle.std.specs.Int.Digits.{number_from_digits}
use Rattle.std.proofs.lemmas.Int.Digits.{number_push, number_after_append, number_after_ge}
use Rattle.std.proofs.lemmas.List.{map_more, map-append, take-append-drop}
use Rattle.std.proofs.lemmas.Bool.{and_from, and_parts, and_left, and_right, cond-false, le-ltb}
use Rattle.reading.specs.Spelling.{is_digit, all_digits, digits_value, decimal_of}

abbrev worth_of : ℕ → ℕ
worth_of c = c - 48

pub value_more : (cs : List ℕ) (i : ℕ) → i < length cs → digits_value (take (i + 1) cs) ≡ digits_value (take i cs) * 10 + (get_or cs i 0 - 48)
value_more cs i h = ap (number_from_digits 10) (map_more worth_of cs i 0 h) ∙ number_push 10 (map worth_of (take i cs)) (get_or cs i 0 - 48)

-- a front writes no larger number than the whole
value_grows : (cs : List ℕ) (k : ℕ) → digits_value (take k cs) ≤ digits_value cs
value_grows cs k =
    let front = map worth_of (take k cs) in
    let e = ap (λ (xs : List ℕ). number_from_digits 10 (map worth_of xs)) (sym (take-append-drop k cs)) in
    let f = ap (number_from_digits 10) (map-append worth_of (take k cs) (drop k cs)) in
    let s = number_after_append 10 0 front (map worth_of (drop k cs)) in
    let g = number_after_ge 10 (number_from_digits 10 front) (map worth_of (drop k cs)) (omega arith) in omega (arith, e, f, s, g)

pub digits_more : (cs : List ℕ) (i : ℕ) → i < length cs → all_digits (take i cs) ≡ true → is_digit (get_or cs i 0) ≡ true → all_digits (take (suc i) cs) ≡ true
digits_more [] i h a d = absurd (omega arith)
digits_more (c ∷ cs) zero h a d = and_from (is_digit c) true d refl
digits_more (c ∷ cs) (suc i) h a d =
    let p = and_parts (is_digit c) (all_digits (take i cs)) a in and_from (is_digit c) _ p.0 (digits_more cs i (omega arith) p.1 d)

one_bad : (cs : List ℕ) (i : ℕ) → i < length cs → is_digit (get_or cs i 0) ≡ false → all_digits cs ≡ false
one_bad [] i h d = absurd (omega arith)
one_bad (c ∷ cs) zero h d = and_left (is_digit c) (all_digits cs) d
one_bad (c ∷ cs) (suc i) h d = and_right (is_digit c) (all_digits cs) (one_bad cs i (omega arith) d)

-- a digit that is none refuses the whole
pub no_digit : (limit : ℕ) (cs : List ℕ) (i : ℕ) → i < length cs → is_digit (get_or cs i 0) ≡ false → decimal_of limit cs ≡ None
no_digit limit cs i h d =
    cond-false _ (Some (digits_value cs)) None (and_right (ltb 0 (length cs)) _ (and_left (all_digits cs) (ltb (digits_value cs) limit) (one_bad cs i h d)))

-- and so does one that makes the number too large
pub too_large : (limit : ℕ) (cs : List ℕ) (i : ℕ) → i < length cs → limit ≤ digits_value (take i cs) * 10 + (get_or cs i 0 - 48) → decimal_of limit cs ≡ None
too_large limit cs i h large =
    let whole = le-ltb (digits_value cs) limit (omega (arith, large, value_more cs i h, value_grows cs (i + 1))) in
    cond-false _ (Some (digits_value cs)) None (and_right (ltb 0 (length cs)) _ (and_right (all_digits cs) _ whole))
