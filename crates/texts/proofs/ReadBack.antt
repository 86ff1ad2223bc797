-- What is printed of a signature is read back as that signature, and printed again as it was.
use Rattle.std.proofs.Common.{◌≡◌, ℕ, ◌^◌, ◌<◌, nat_lt, List, [], ◌∷◌, ◌++◌, map, length, get_or, vec_items, codes, decimal, sym, ap, ◌∙◌, subst, inl, inr, arith}
use Rattle.std.proofs.lemmas.Bool.{and_parts, ltb-true}
use Rattle.std.proofs.lemmas.List.{append_cancel_left}
use Rattle.std.proofs.lemmas.Option.{cond_some}
use Rattle.hash.specs.Members.{In}
use Rattle.hash.specs.Value.{value_of}
use Rattle.hash.specs.declared.number.Number.{Number}
use Rattle.hash.proofs.Members.{In_left, In_right, In-append, from_map}
use Rattle.hash.proofs.Numbers.{bounded}
use Rattle.signatures.specs.Lines.{numbers_line, signature_text}
use Rattle.signatures.specs.Signatures.{Signature, numbers}
use Rattle.reading.specs.Spelling.{all_digits, digits_value, decimal_of}
use Rattle.reading.proofs.Newlines.{signature_lines, lines_of_signature}
use Rattle.reading.proofs.Printed.{decimal_read, decimal_printed, numbers_told}
use Rattle.texts.specs.SignatureLines.{signature_of, KeySpelled, LinesOf, Fits, FourLines, KeyPlain}
use Rattle.texts.specs.declared.signature.ReadSignature.{ReadSignature}
use Rattle.texts.specs.declared.signature.SignatureLines.{SignatureLines}

-- the lines of a signature that is printed spell it
pub spelled_back : (t : SignatureLines) (g : Signature) → Fits g → FourLines t (signature_text g) → LinesOf g t
spelled_back t g f l =
    let line : (k : ℕ) → get_or (t.key.now ∷ t.parts.now ∷ t.others.now ∷ t.path.now ∷ []) k [] ≡ get_or (signature_lines g) k [] =
    λ k. ap (λ (ls : List (List ℕ)). get_or ls k []) (sym l ∙ lines_of_signature g f.0) in
    ((decimal g.key, line 0, decimal_read (2 ^ 64) g.key f.0 f.0), line 1, line 2, line 3)

-- signatures of the same key and the same lines of numbers are the same
same_signature : (g h : Signature) → Fits g → Fits h → g.key ≡ h.key → numbers_line (codes "parts") g.parts ≡ numbers_line (codes "parts") h.parts →
    numbers_line (codes "others") g.others ≡ numbers_line (codes "others") h.others → numbers_line (codes "path") g.path ≡ numbers_line (codes "path") h.path → g ≡ h
same_signature g h f e key parts others path =
    let p = numbers_told (codes "parts") g.parts h.parts (λ v i. f.1 v (In_left v _ _ i)) (λ v i. e.1 v (In_left v _ _ i)) parts in
    let o = numbers_told (codes "others") g.others h.others (λ v i. f.1 v (In_right v g.parts _ (In_left v _ _ i))) (λ v i. e.1 v (In_right v h.parts _ (In_left v _ _ i))) others in
    let q = numbers_told (codes "path") g.path h.path (λ v i. f.1 v (In_right v g.parts _ (In_right v g.others _ i))) (λ v i. e.1 v (In_right v h.parts _ (In_right v h.others _ i))) path in
    ap (λ (k : ℕ). record { key = k; parts = g.parts; others = g.others; path = g.path }) key
    ∙ (ap (λ (vs : List ℕ). record { key = h.key; parts = vs; others = g.others; path = g.path }) p
    ∙ (ap (λ (vs : List ℕ). record { key = h.key; parts = h.parts; others = vs; path = g.path }) o
    ∙ ap (λ (vs : List ℕ). record { key = h.key; parts = h.parts; others = h.others; path = vs }) q))

one_key : (cs : List ℕ) (k j : ℕ) → KeySpelled cs k → KeySpelled cs j → k ≡ j
one_key cs k j s r = let same = append_cancel_left (codes "key ") s.0 r.0 (sym s.1 ∙ r.1) in let a = s.2 in let b = r.2 in cc

-- lines spell one signature only
pub one_signature : (t : SignatureLines) (g h : Signature) → Fits g → Fits h → LinesOf g t → LinesOf h t → g ≡ h
one_signature t g h f e s r =
    same_signature g h f e (one_key t.key.now g.key h.key s.0 r.0) (sym s.1 ∙ r.1) (sym s.2 ∙ r.2) (sym s.3 ∙ r.3)

-- the numbers of a signature that was read are numbers of the program
pub numbers_below : (s : ReadSignature) (v : ℕ) → In v (numbers (signature_of s)) → v < 2 ^ 256
numbers_below s v i =
    let row : (ns : List Number) → In v (map value_of ns) → v < 2 ^ 256 = λ ns j. let n = from_map value_of v ns j in subst (λ (x : ℕ). x < 2 ^ 256) (sym n.2) (bounded n.0) in
    elim (In-append v (map value_of (vec_items s.parts)) _ i) [
      | inl j ↦ row (vec_items s.parts) j
      | inr j ↦ elim (In-append v (map value_of (vec_items s.others)) _ j) [ inl k ↦ row (vec_items s.others) k | inr k ↦ row (vec_items s.path) k ]
    ]

key_below : (cs : List ℕ) (k : ℕ) → KeySpelled cs k → k < 2 ^ 64
key_below cs k s =
    let parts = cond_some _ (digits_value s.0) k s.2 in
    let below = ltb-true (digits_value s.0) (2 ^ 64) (and_parts (all_digits s.0) _ (and_parts (nat_lt 0 (length s.0)) _ parts.0).1).1 in omega (arith, below, parts.1)

-- a signature that was read is one of numbers of the program
pub read_fits : (s : ReadSignature) (t : SignatureLines) → LinesOf (signature_of s) t → Fits (signature_of s)
read_fits s t read = (key_below t.key.now s.key read.0, numbers_below s)

-- what is read of the lines of a signature that is printed is that signature
pub read_back : (t : SignatureLines) (s : ReadSignature) → LinesOf (signature_of s) t → (g : Signature) → Fits g → FourLines t (signature_text g) → signature_of s ≡ g
read_back t s read g f l =
    one_signature t (signature_of s) g (read_fits s t read) f read (spelled_back t g f l)

-- and it is printed as it was read, but for zeros in front of the key
pub printed_again : (t : SignatureLines) (s : ReadSignature) → LinesOf (signature_of s) t → KeyPlain t → FourLines t (signature_text (signature_of s))
printed_again t s read plain =
    let same = append_cancel_left (codes "key ") plain.0 read.0.0 (sym plain.1 ∙ read.0.1) in
    let spelled = ap (decimal_of (2 ^ 64)) same ∙ read.0.2 in
    let key : codes "key " ++ decimal s.key ≡ t.key.now = ap (λ (ds : List ℕ). codes "key " ++ ds) (sym (decimal_printed (2 ^ 64) plain.0 s.key (omega arith) plain.2 spelled)) ∙ sym plain.1 in
    let lines = lines_of_signature (signature_of s) (key_below t.key.now s.key read.0) in
    let parts = read.1 in
    let others = read.2 in
    let path = read.3 in
    cc
