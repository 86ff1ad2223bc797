-- What is printed is read back: decimals, and numbers in sixteens.
use Rattle.std.proofs.Common.{◌≡◌, ℕ, suc, ◌-◌, ◌*◌, ◌/◌, ◌%◌, ◌^◌, ◌<◌, ◌≤◌, true, List, [], ◌∷◌, ◌++◌, map, length, get_or, take, drop, Some, decimal, sym, refl, ap, ◌∙◌, subst, inl, inr, arith, rules}
use Rattle.std.specs.List.{flat_map, AllZip}
use Rattle.std.specs.Int.Digits.{number_from_digits_after}
use Rattle.std.specs.Str.Iter.{LacksByte}
use Rattle.std.proofs.lemmas.Bool.{and_from, and_parts, cond-true, lt-ltb, ltb-true}
use Rattle.std.proofs.lemmas.Bool.Decides.{nat_tests}
use Rattle.std.proofs.lemmas.Fmt.{decimal-digits_value, decimal_nonempty, digits_decimal, digits_value-decimal}
use Rattle.std.proofs.lemmas.List.{append_cancel_left, drop_at, take_at}
use Rattle.std.proofs.lemmas.Option.{cond_some}
use Rattle.std.proofs.lemmas.Str.Parse.{IsNumeralModel, numerals_by_fold}
use Rattle.hash.specs.Hex.{hex_digit, hex}
use Rattle.hash.specs.Members.{In}
use Rattle.hash.specs.Value.{worth, bytes_of}
use Rattle.hash.proofs.Numbers.{length-bytes, with_bytes, worth-bytes}
use Rattle.signatures.specs.Lines.{numbers_line}
use Rattle.reading.specs.Spaced.{SpacedWords}
use Rattle.reading.specs.Spelling.{all_digits, digits_value, decimal_of, Plain}
use Rattle.reading.proofs.Cuts.{decimal_whole, same_words}
use Rattle.reading.proofs.Hexes.{length-hex}

own : IsNumeralModel (λ ds. all_digits ds ≡ true) digits_value
own = numerals_by_fold _ (search rules) (λ n cs. number_from_digits_after 10 n (map (λ c. c - 48) cs)) (search rules)

-- a decimal that was printed spells its number
pub decimal_read : (limit k : ℕ) → k < limit → k < 2 ^ 64 → decimal_of limit (decimal k) ≡ Some k
decimal_read limit k small word =
    let value = digits_value-decimal own k word in
    let digits = digits_decimal own k word in
    let some = lt-ltb 0 (length (decimal k)) (decimal_nonempty k word) in
    let below = lt-ltb (digits_value (decimal k)) limit (omega (arith, value, small)) in
    cond-true _ _ _ (and_from _ _ some (and_from _ _ digits below)) ∙ ap Some value

-- and one with no 0 in front is what is printed of its number
pub decimal_printed : (limit : ℕ) (ds : List ℕ) (k : ℕ) → limit ≤ 2 ^ 64 → Plain ds → decimal_of limit ds ≡ Some k → ds ≡ decimal k
decimal_printed limit ds k low plain e =
    let parts = cond_some _ (digits_value ds) k e in
    let tests = and_parts _ _ parts.0 in
    let rest = and_parts (all_digits ds) _ tests.1 in
    sym (decimal-digits_value own ds rest.0 (ltb-true _ _ tests.0) plain (omega (arith, ltb-true _ _ rest.1, low))) ∙ ap decimal parts.1

-- numbers in decimal, each after one space
module _ (limit : ℕ) (low : limit ≤ 2 ^ 64) where
  -- those that are printed spell their numbers
  pub counts_read : (vs : List ℕ) → ((v : ℕ) → In v vs → v < limit) → SpacedWords (λ w v. decimal_of limit w ≡ Some v) (flat_map (λ v. 32 ∷ decimal v) vs) vs
  counts_read [] b = ([], refl, tt)
  counts_read (v ∷ vs) b =
      let small = b v (inl refl) in
      let e = decimal_read limit v small (omega (arith, small, low)) in
      let r = counts_read vs (λ x i. b x (inr i)) in
      (decimal v ∷ r.0, ap (λ (t : List ℕ). 32 ∷ (decimal v ++ t)) r.1, ((decimal_whole limit (decimal v) v e, e), r.2))

  words_whole : (ws : List (List ℕ)) (vs : List ℕ) → AllZip (λ w v. LacksByte 32 w × (decimal_of limit w ≡ Some v)) ws vs → (w : List ℕ) → In w ws → LacksByte 32 w
  words_whole [] vs m w i = absurd i
  words_whole (x ∷ ws) [] m w i = absurd m
  words_whole (x ∷ ws) (v ∷ vs) m w (inl e) = subst (λ (t : List ℕ). LacksByte 32 t) (sym e) m.0.0
  words_whole (x ∷ ws) (v ∷ vs) m w (inr i) = words_whole ws vs m.1 w i

  words_told : (ws : List (List ℕ)) (us vs : List ℕ) → AllZip (λ w v. LacksByte 32 w × (decimal_of limit w ≡ Some v)) ws us → AllZip (λ w v. LacksByte 32 w × (decimal_of limit w ≡ Some v)) ws vs → us ≡ vs
  words_told [] [] [] m n = refl
  words_told [] (u ∷ us) vs m n = absurd m
  words_told [] [] (v ∷ vs) m n = absurd n
  words_told (w ∷ ws) [] vs m n = absurd m
  words_told (w ∷ ws) (u ∷ us) [] m n = absurd n
  words_told (w ∷ ws) (u ∷ us) (v ∷ vs) m n =
      let a = m.0.1 in
      let b = n.0.1 in
      let rest = words_told ws us vs m.1 n.1 in
      cc

  -- a text spells one row of numbers only
  pub counts_told : (cs us vs : List ℕ) → SpacedWords (λ w v. decimal_of limit w ≡ Some v) cs us → SpacedWords (λ w v. decimal_of limit w ≡ Some v) cs vs → us ≡ vs
  counts_told cs us vs s r =
      let same = same_words s.0 r.0 (words_whole s.0 us s.2) (words_whole r.0 vs r.2) (sym s.1 ∙ r.1) in
      words_told r.0 us vs (subst (λ (ws : List (List ℕ)). AllZip (λ w v. LacksByte 32 w × (decimal_of limit w ≡ Some v)) ws us) same s.2) r.2

  -- and those with no 0 in front are what is printed of their numbers
  words_printed : (ws : List (List ℕ)) (vs : List ℕ) → AllZip (λ w v. LacksByte 32 w × (decimal_of limit w ≡ Some v)) ws vs → ((w : List ℕ) → In w ws → Plain w) →
      flat_map (λ w. 32 ∷ w) ws ≡ flat_map (λ v. 32 ∷ decimal v) vs
  words_printed [] [] m p = refl
  words_printed [] (v ∷ vs) m p = absurd m
  words_printed (w ∷ ws) [] m p = absurd m
  words_printed (w ∷ ws) (v ∷ vs) m p =
      let first = decimal_printed limit w v low (p w (inl refl)) m.0.1 in
      let rest = words_printed ws vs m.1 (λ x i. p x (inr i)) in
      cc

  pub counts_printed : (cs vs : List ℕ) (ws : List (List ℕ)) → SpacedWords (λ w v. decimal_of limit w ≡ Some v) cs vs → cs ≡ flat_map (λ w. 32 ∷ w) ws → ((w : List ℕ) → In w ws → LacksByte 32 w × Plain w) →
      cs ≡ flat_map (λ v. 32 ∷ decimal v) vs
  counts_printed cs vs ws s e p =
      let same = same_words s.0 ws (words_whole s.0 vs s.2) (λ w i. (p w i).0) (sym s.1 ∙ e) in
      s.1 ∙ words_printed s.0 vs s.2 (λ w i. (p w (subst (λ (us : List (List ℕ)). In w us) same i)).1)

-- bytes in sixteens are those of these bytes alone
digit_told : (a b : ℕ) → a < 16 → b < 16 → hex_digit a ≡ hex_digit b → a ≡ b
digit_told a b = grind (arith, nat_tests)

pub hex_told : (bs cs : List ℕ) → length bs ≡ length cs → ((i : ℕ) → get_or bs i 0 < 256) → ((i : ℕ) → get_or cs i 0 < 256) → hex bs ≡ hex cs → bs ≡ cs
hex_told [] [] l u v e = refl
hex_told [] (c ∷ cs) l u v e = absurd (omega arith)
hex_told (b ∷ bs) [] l u v e = absurd (omega arith)
hex_told (b ∷ bs) (c ∷ cs) l u v e =
    let high = digit_told (b / 16) (c / 16) (omega (arith, u 0)) (omega (arith, v 0)) (ap (λ (t : List ℕ). get_or t 0 0) e) in
    let low = digit_told (b % 16) (c % 16) (omega arith) (omega arith) (ap (λ (t : List ℕ). get_or t 1 0) e) in
    let same : b ≡ c = omega (arith, high, low) in
    let rest = hex_told bs cs (omega arith) (λ i. u (suc i)) (λ i. v (suc i)) (ap (drop 2) e) in
    cc

worth_back : (v : ℕ) → v < 2 ^ 256 → worth (bytes_of v) ≡ v
unfolding bytes_of
worth_back v small = worth-bytes 32 v ∙ omega arith

value_told : (u v : ℕ) → u < 2 ^ 256 → v < 2 ^ 256 → hex (bytes_of u) ≡ hex (bytes_of v) → u ≡ v
value_told u v su sv e =
    let m = with_bytes u in
    let n = with_bytes v in
    let same = hex_told m.0.bytes n.0.bytes (m.0.sized ∙ sym n.0.sized) m.0.digits n.0.digits (ap hex m.1 ∙ (e ∙ ap hex (sym n.1))) in
    sym (worth_back u su) ∙ (ap worth (sym m.1 ∙ (same ∙ n.1)) ∙ worth_back v sv)

length-number : (v : ℕ) → length (hex (bytes_of v)) ≡ 64
unfolding bytes_of
length-number v = length-hex (bytes_of v) ∙ ap (λ (k : ℕ). 2 * k) (length-bytes 32 v)

row_told : (us vs : List ℕ) → ((v : ℕ) → In v us → v < 2 ^ 256) → ((v : ℕ) → In v vs → v < 2 ^ 256) →
    flat_map (λ v. 32 ∷ hex (bytes_of v)) us ≡ flat_map (λ v. 32 ∷ hex (bytes_of v)) vs → us ≡ vs
row_told [] [] a b e = refl
row_told [] (v ∷ vs) a b e = absurd (omega (arith, ap length e))
row_told (u ∷ us) [] a b e = absurd (omega (arith, ap length e))
row_told (u ∷ us) (v ∷ vs) a b e =
    let f = ap (drop 1) e in
    let word = sym (take_at (hex (bytes_of u)) _ 64 (length-number u)) ∙ (ap (take 64) f ∙ take_at (hex (bytes_of v)) _ 64 (length-number v)) in
    let left = sym (drop_at (hex (bytes_of u)) _ 64 (length-number u)) ∙ (ap (drop 64) f ∙ drop_at (hex (bytes_of v)) _ 64 (length-number v)) in
    let same = value_told u v (a u (inl refl)) (b v (inl refl)) word in
    let rest = row_told us vs (λ x i. a x (inr i)) (λ x i. b x (inr i)) left in
    cc

-- a line of numbers below 2^256 tells them
pub numbers_told : (word us vs : List ℕ) → ((v : ℕ) → In v us → v < 2 ^ 256) → ((v : ℕ) → In v vs → v < 2 ^ 256) → numbers_line word us ≡ numbers_line word vs → us ≡ vs
numbers_told word us vs a b e = row_told us vs a b (append_cancel_left word _ _ e)
