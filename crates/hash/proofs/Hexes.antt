-- Bytes in sixteens: their digits are ASCII, and are written into a row one after the other.
use Rattle.std.proofs.Common.{◌≡◌, ℕ, suc, ◌+◌, ◌*◌, ◌/◌, ◌%◌, ◌<◌, ◌≤◌, List, [], ◌∷◌, ◌++◌, length, take, slice_index, slice_set, inl, inr, sym, ap, ◌∙◌, arith, append_assoc}
use Rattle.std.proofs.lemmas.Bool.{cases_lt}
use Rattle.std.proofs.lemmas.Str.Ascii.{IsAscii-nil, IsAscii-cons}
use Rattle.std.specs.Str.{IsAscii}
use Rattle.std.proofs.lemmas.List.{flat_map_more, length-set, take_all, take_more, take_more_set}
use Rattle.hash.specs.Hex.{hex_digit, hex_byte, hex}

-- two numbers written one behind the other, seen from the front
two_written : (xs : List ℕ) (o x y : ℕ) → o + 1 < length xs → take (o + 2) (slice_set (slice_set xs o x) (o + 1) y) ≡ take o xs ++ (x ∷ y ∷ [])
two_written xs o x y fits =
    let len : length (slice_set xs o x) ≡ length xs = length-set xs o x in
    let two : o + 2 ≡ o + 1 + 1 = omega arith in
    let second = take_more_set (slice_set xs o x) (o + 1) y (omega (arith, len)) in
    let first = take_more_set xs o x (omega arith) in
    rw (two, second, first) (append_assoc (take o xs) (x ∷ []) (y ∷ []))

-- one byte more is two digits more
pub byte_more : (bytes digits : List ℕ) (i x y : ℕ) → i < length bytes → 2 * i + 1 < length digits →
    x ≡ hex_digit (slice_index bytes i / 16) → y ≡ hex_digit (slice_index bytes i % 16) →
    take (2 * i) digits ≡ hex (take i bytes) → take (2 * (i + 1)) (slice_set (slice_set digits (2 * i) x) (2 * i + 1) y) ≡ hex (take (i + 1) bytes)
byte_more bytes digits i x y below fits high low before =
    let two : 2 * (i + 1) ≡ 2 * i + 2 = omega arith in
    let front = two_written digits (2 * i) x y fits in
    let more = flat_map_more hex_byte [] (take i bytes) (slice_index bytes i) ∙ sym (ap hex (take_more bytes i 0 below)) in
    rw (two, front, before, high, low) more

-- all of them
pub byte_all : (bytes digits : List ℕ) (i : ℕ) → length bytes ≤ i → length digits ≡ 2 * length bytes → take (2 * i) digits ≡ hex (take i bytes) → digits ≡ hex bytes
byte_all bytes digits i past long before = sym (take_all (2 * i) digits (omega (arith, long))) ∙ before ∙ ap hex (take_all i bytes past)

digit_small : (d : ℕ) → d < 16 → hex_digit d < 128
digit_small d small = elim (cases_lt d 10) [
  | inl low ↦ grind (arith)
  | inr high ↦ grind (arith)
]

pub hex_ascii : (bytes : List ℕ) → ((i : ℕ) → slice_index bytes i < 256) → IsAscii (hex bytes)
hex_ascii [] small = IsAscii-nil
hex_ascii (b ∷ bytes) small =
    let below = small 0 in
    IsAscii-cons (hex_digit (b / 16)) (hex_digit (b % 16) ∷ hex bytes) (digit_small (b / 16) (omega (arith, below)))
    (IsAscii-cons (hex_digit (b % 16)) (hex bytes) (digit_small (b % 16) (omega arith)) (hex_ascii bytes (λ i. small (suc i))))
