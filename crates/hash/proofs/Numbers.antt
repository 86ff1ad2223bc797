-- What bytes mean, and what it tells of them. What holds of every number: it is below 2^256, and its bytes are those of its meaning; and that for every natural number there is one with its lowest thirty-two bytes.
use Rattle.std.proofs.Common.{◌≡◌, ◌↔◌, IsTrue, Bool, true, false, eqb, ℕ, zero, suc, ◌+◌, ◌*◌, ◌/◌, ◌%◌, ◌^◌, ◌<◌, List, [], ◌∷◌, length, get_or, sym, refl, ap, ◌∙◌, pow-suc, div-one, arith}
use native.Mathlib.Nat.{div-div-eq-div-mul, div-add-mod'}
use Rattle.std.specs.Int.Digits.{AllBelowBase, number_from_digits_after}
use Rattle.std.proofs.lemmas.Bool.{eq-eqb, ne_eqb, false≢true}
use Rattle.std.proofs.lemmas.Int.Digits.{number_lt}
use Rattle.hash.specs.Laws.{Bounded, BytesBack}
use Rattle.hash.specs.Value.{worth, value_of, bytes_from, bytes_of}
use Rattle.hash.specs.declared.number.Number.{Number}
use Rattle.hash.proofs.Carries.{before_digits}

under_all : (bs : List ℕ) → ((i : ℕ) → get_or bs i 0 < 256) → AllBelowBase 256 bs
under_all [] h = tt
under_all (b ∷ bs) h = (h 0, under_all bs (λ i. h (suc i)))

-- what so many bytes mean is so small
pub worth_small : (bs : List ℕ) → ((i : ℕ) → get_or bs i 0 < 256) → worth bs < 256 ^ length bs
worth_small bs u = number_lt 256 bs (under_all bs u)

pub bounded : Bounded
bounded n = rw n.sized at (worth_small n.bytes n.digits)

-- what stands above the last digits
above : (m : ℕ) (xs : List ℕ) → AllBelowBase 256 xs → number_from_digits_after 256 m xs / 256 ^ length xs ≡ m
above m [] u = div-one m
above m (x ∷ xs) u =
    let n = number_from_digits_after 256 (m * 256 + x) xs in
    let e : n / 256 ^ suc (length xs) ≡ n / 256 ^ length xs / 256 = ap (λ p. n / p) (pow-suc 256 (length xs)) ∙ sym (div-div-eq-div-mul n (256 ^ length xs) 256) in
    let f = above (m * 256 + x) xs u.1 in
    e ∙ (ap (λ k. k / 256) f ∙ omega (arith, u.0))

digits_back : (m : ℕ) (xs : List ℕ) → AllBelowBase 256 xs → xs ≡ bytes_from (length xs) (number_from_digits_after 256 m xs)
unfolding bytes_from
digits_back m [] u = refl
digits_back m (x ∷ xs) u =
    let f = above (m * 256 + x) xs u.1 in
    let head : x ≡ number_from_digits_after 256 (m * 256 + x) xs / 256 ^ length xs % 256 = omega (arith, f, u.0) in
    let tail = digits_back (m * 256 + x) xs u.1 in
    cc

-- as many bytes that mean the same are the same
pub bytes_told : (bs cs : List ℕ) → length bs ≡ length cs → ((i : ℕ) → get_or bs i 0 < 256) → ((i : ℕ) → get_or cs i 0 < 256) → worth bs ≡ worth cs → bs ≡ cs
bytes_told bs cs l u v e =
    digits_back 0 bs (under_all bs u) ∙ (ap (λ (w : ℕ). bytes_from w (worth bs)) l ∙ (ap (bytes_from (length cs)) e ∙ sym (digits_back 0 cs (under_all cs v))))

pub bytes_back : BytesBack
unfolding bytes_of
bytes_back n = rw n.sized at (digits_back 0 n.bytes (under_all n.bytes n.digits))

-- so the bytes tell whether two numbers mean the same
pub told_by_bytes : (m n : Number) (r : Bool) → (IsTrue r ↔ (m.bytes ≡ n.bytes)) → r ≡ eqb (value_of m) (value_of n)
told_by_bytes m n true d = sym (eq-eqb _ _ (ap worth (d.0 refl)))
told_by_bytes m n false d = sym (ne_eqb _ _ (λ e. false≢true (d.1 (bytes_told m.bytes n.bytes (m.sized ∙ sym n.sized) m.digits n.digits e))))

pub length-bytes : (w v : ℕ) → length (bytes_from w v) ≡ w
unfolding bytes_from
length-bytes zero v = refl
length-bytes (suc w) v = ap (λ (k : ℕ). suc k) (length-bytes w v)

bytes_small : (w v i : ℕ) → get_or (bytes_from w v) i 0 < 256
unfolding bytes_from
bytes_small zero v i = omega arith
bytes_small (suc w) v zero = omega arith
bytes_small (suc w) v (suc i) = bytes_small w v i

pub with_bytes : (v : ℕ) → (n : Number) × (n.bytes ≡ bytes_of v)
unfolding bytes_of
with_bytes v = (record { bytes = bytes_from 32 v; sized = length-bytes 32 v; digits = bytes_small 32 v }, refl)

-- the lowest bytes of a number, behind what stands above them
behind_above : (w v : ℕ) → number_from_digits_after 256 (v / 256 ^ w) (bytes_from w v) ≡ v
unfolding bytes_from
behind_above zero v = div-one v
behind_above (suc w) v =
    let e : v / 256 ^ suc w ≡ v / 256 ^ w / 256 = ap (λ p. v / p) (pow-suc 256 w) ∙ sym (div-div-eq-div-mul v (256 ^ w) 256) in
    let f : v / 256 ^ suc w * 256 + v / 256 ^ w % 256 ≡ v / 256 ^ w = ap (λ k. k * 256 + v / 256 ^ w % 256) e ∙ div-add-mod' (v / 256 ^ w) 256 in
    ap (λ k. number_from_digits_after 256 k (bytes_from w v)) f ∙ behind_above w v

-- they mean what is left of it
pub worth-bytes : (w v : ℕ) → worth (bytes_from w v) ≡ v % 256 ^ w
worth-bytes w v =
    let q = v / 256 ^ w in
    let apart : number_from_digits_after 256 (q + 0) (bytes_from w v) ≡ q * 256 ^ w + worth (bytes_from w v) = rw (length-bytes w v) at (before_digits 256 q 0 (bytes_from w v)) in
    let same : q + 0 ≡ q = omega arith in
    omega (arith, apart, ap (λ k. number_from_digits_after 256 k (bytes_from w v)) same, behind_above w v, div-add-mod' v (256 ^ w))
