-- The texts that are printed: which of them begin as a signature does, and the key that its first line names.
use Rattle.std.proofs.Common.{◌≡◌, ℕ, zero, suc, ◌/◌, ◌%◌, ◌^◌, ◌<◌, List, [], ◌∷◌, ◌++◌, get_or, None, Some, Option, codes, decimal, drop, sym, ap, ◌∙◌, arith}
use Rattle.std.proofs.lemmas.Bool.Decides.{nat_tests}
use Rattle.std.proofs.lemmas.Fmt.{decimal_digit}
use Rattle.hash.specs.Hex.{hex_digit, hex}
use Rattle.hash.specs.Value.{bytes_of}
use Rattle.hash.proofs.Numbers.{with_bytes}
use Rattle.keys.specs.Refusals.{refusal_spelled, refusal_number, refusal_place}
use Rattle.keys.specs.declared.refusal.Refusal.{Refusal}
use Rattle.signatures.specs.Signatures.{Signature}
use Rattle.signatures.specs.Lines.{numbers_line, signature_text}
use Rattle.reading.specs.Newlines.{lines_of}
use Rattle.reading.specs.Spelling.{decimal_of}
use Rattle.reading.proofs.Cuts.{decimal_lacks}
use Rattle.reading.proofs.Newlines.{lines_cut, decimal_line}
use Rattle.reading.proofs.Printed.{decimal_read}
use Rattle.texts.specs.SignatureLines.{KeySpelled}
use Rattle.sessions.specs.Sessions.{refusal_or}
use Rattle.sessions.proofs.Promised.{one_digit}

-- a text does not begin with the k of `key`, and it is not `accepted`
abbrev pub Other : List ℕ → Type 0
Other cs = (get_or cs 0 0 ≡ 107 → ⊥) × (cs ≡ codes "accepted" → ⊥)

-- a text that begins with neither k nor a
pub by_first : (cs : List ℕ) → (get_or cs 0 0 ≡ 107 → ⊥) → (get_or cs 0 0 ≡ 97 → ⊥) → Other cs
by_first cs k a = (k, λ e. a (ap (λ (x : List ℕ). get_or x 0 0) e))

pub refusal_other : (r : Refusal) → Other (refusal_spelled r)
refusal_other r =
    let small = one_digit r in
    let digit = ap (λ (cs : List ℕ). get_or (cs ++ (codes " " ++ decimal (refusal_place r))) 0 0) (decimal_digit (refusal_number r) small) in
    by_first (refusal_spelled r) (λ e. omega (arith, digit, small, e)) (λ e. omega (arith, digit, small, e))

pub refused_or : (o : Option Refusal) (cs : List ℕ) → Other cs → Other (refusal_or o cs)
refused_or (Some r) cs x = refusal_other r
refused_or None cs x = x

-- no digit in sixteens is a k or a p
digit_low : (d : ℕ) → d < 16 → hex_digit d < 103
digit_low d h = grind (arith, nat_tests)

hex_low : (bs : List ℕ) (k : ℕ) → ((i : ℕ) → get_or bs i 0 < 256) → get_or (hex bs) k 0 < 103
hex_low [] k u = omega arith
hex_low (b ∷ bs) zero u = digit_low (b / 16) (omega (arith, u 0))
hex_low (b ∷ bs) (suc zero) u = digit_low (b % 16) (omega arith)
hex_low (b ∷ bs) (suc (suc k)) u = hex_low bs k (λ i. u (suc i))

pub number_other : (v : ℕ) → Other (hex (bytes_of v))
number_other v =
    let n = with_bytes v in
    let low : (k : ℕ) → get_or (hex (bytes_of v)) k 0 < 103 = λ k. rw n.1 at (hex_low n.0.bytes k n.0.digits) in
    (λ e. omega (arith, low 0, e), λ e. omega (arith, low 4, ap (λ (x : List ℕ). get_or x 4 0) e))

-- the first line of a signature names its key
pub key_named : (g : Signature) (line rest : List ℕ) (k : ℕ) → g.key < 2 ^ 64 → signature_text g ≡ line ++ (10 ∷ rest) → KeySpelled line k → g.key ≡ k
key_named g line rest k small e (ds, is, value) =
    let parts = numbers_line (codes "parts") g.parts ++ (numbers_line (codes "\nothers") g.others ++ numbers_line (codes "\npath") g.path) in
    let tail : decimal g.key ++ (10 ∷ parts) ≡ ds ++ (10 ∷ rest) = ap (drop 4) (e ∙ ap (λ (cs : List ℕ). cs ++ (10 ∷ rest)) is) in
    let lines = sym (lines_cut (decimal g.key) parts (decimal_line g.key small)) ∙ (ap lines_of tail ∙ lines_cut ds rest (decimal_lacks 10 (omega arith) (2 ^ 64) ds k value)) in
    let same = sym (decimal_read (2 ^ 64) g.key small small) ∙ (ap (λ (ls : List (List ℕ)). decimal_of (2 ^ 64) (get_or ls 0 [])) lines ∙ value) in
    cc
