-- The lines of a text, and those of a signature that is printed.
use Rattle.std.proofs.Common.{◌≡◌, ℕ, zero, suc, ◌^◌, ◌<◌, true, nat_lt, List, [], ◌∷◌, ◌++◌, length, codes, decimal, refl, ap, ◌∙◌, arith}
use Rattle.std.specs.List.{flat_map, list_all}
use Rattle.std.specs.Str.Iter.{LacksByte}
use Rattle.std.proofs.lemmas.Bool.{and_parts, cond-false, ltb-true, ne_eqb}
use Rattle.hash.specs.Hex.{hex}
use Rattle.hash.specs.Value.{bytes_of}
use Rattle.signatures.specs.Lines.{numbers_line, signature_text}
use Rattle.signatures.specs.Signatures.{Signature}
use Rattle.reading.specs.Newlines.{in_front, lines_of}
use Rattle.reading.proofs.Cuts.{decimal_lacks, hex_lacks}
use Rattle.reading.proofs.Printed.{decimal_read}

lacks_both : (c : ℕ) (xs ys : List ℕ) → LacksByte c xs → LacksByte c ys → LacksByte c (xs ++ ys)
lacks_both c [] ys a b k h = b k h
lacks_both c (x ∷ xs) ys a b zero h = a 0 (omega arith)
lacks_both c (x ∷ xs) ys a b (suc k) h = lacks_both c xs ys (λ j l. a (suc j) (omega arith)) b k (omega arith)

word_lacks : (v : ℕ) → LacksByte 10 (32 ∷ hex (bytes_of v))
word_lacks v zero h s = omega arith
word_lacks v (suc k) h s = hex_lacks 10 (omega arith) (bytes_of v) k (omega arith) s

row_lacks : (vs : List ℕ) → LacksByte 10 (flat_map (λ v. 32 ∷ hex (bytes_of v)) vs)
row_lacks [] k h s = omega arith
row_lacks (v ∷ vs) k h s = lacks_both 10 (32 ∷ hex (bytes_of v)) _ (word_lacks v) (row_lacks vs) k h s

-- a line, and a newline behind it
pub lines_cut : (l cs : List ℕ) → LacksByte 10 l → lines_of (l ++ (10 ∷ cs)) ≡ l ∷ lines_of cs
lines_cut [] cs a = refl
lines_cut (c ∷ l) cs a =
    cond-false _ _ _ (ne_eqb c 10 (a 0 (omega arith))) ∙ ap (in_front c) (lines_cut l cs (λ j h. a (suc j) (omega arith)))

-- a last line with no newline behind it
lines_last : (l : List ℕ) → 0 < length l → LacksByte 10 l → lines_of l ≡ l ∷ []
lines_last [] h a = absurd (omega arith)
lines_last (c ∷ []) h a = cond-false _ _ _ (ne_eqb c 10 (a 0 (omega arith)))
lines_last (c ∷ (d ∷ l)) h a =
    cond-false _ _ _ (ne_eqb c 10 (a 0 (omega arith))) ∙ ap (in_front c) (lines_last (d ∷ l) (omega arith) (λ j h. a (suc j) (omega arith)))

line_lacks : (word vs : List ℕ) → LacksByte 10 word → LacksByte 10 (numbers_line word vs)
line_lacks word vs a = lacks_both 10 word _ a (row_lacks vs)

pub decimal_line : (k : ℕ) → k < 2 ^ 64 → LacksByte 10 (decimal k)
decimal_line k small = decimal_lacks 10 (omega arith) (2 ^ 64) (decimal k) k (decimal_read (2 ^ 64) k small small)

-- a word of characters that come after the newline
letters_lack : (cs : List ℕ) → list_all (λ c. nat_lt 10 c) cs ≡ true → LacksByte 10 cs
letters_lack [] e k h s = omega arith
letters_lack (c ∷ cs) e zero h s = let above = ltb-true 10 c (and_parts _ _ e).0 in omega (arith, above, s)
letters_lack (c ∷ cs) e (suc k) h s = letters_lack cs (and_parts (nat_lt 10 c) _ e).1 k (omega arith) s

-- the lines of a signature that is printed
abbrev pub signature_lines : Signature → List (List ℕ)
signature_lines g =
    (codes "key " ++ decimal g.key) ∷ numbers_line (codes "parts") g.parts ∷ numbers_line (codes "others") g.others ∷ numbers_line (codes "path") g.path ∷ []

pub lines_of_signature : (g : Signature) → g.key < 2 ^ 64 → lines_of (signature_text g) ≡ signature_lines g
lines_of_signature g small =
    let parts = numbers_line (codes "parts") g.parts in
    let others = numbers_line (codes "others") g.others in
    let path = numbers_line (codes "path") g.path in
    let key = codes "key " ++ decimal g.key in
    let cut : lines_of (key ++ (10 ∷ (parts ++ (10 ∷ (others ++ (10 ∷ path)))))) ≡ key ∷ parts ∷ others ∷ path ∷ [] =
    lines_cut key _ (lacks_both 10 (codes "key ") _ (letters_lack (codes "key ") refl) (decimal_line g.key small))
    ∙ ap (λ (ls : List (List ℕ)). key ∷ ls)
    (lines_cut parts _ (line_lacks (codes "parts") g.parts (letters_lack (codes "parts") refl))
    ∙ ap (λ (ls : List (List ℕ)). parts ∷ ls)
    (lines_cut others _ (line_lacks (codes "others") g.others (letters_lack (codes "others") refl))
    ∙ ap (λ (ls : List (List ℕ)). others ∷ ls) (lines_last path (omega arith) (line_lacks (codes "path") g.path (letters_lack (codes "path") refl))))) in
    cut
