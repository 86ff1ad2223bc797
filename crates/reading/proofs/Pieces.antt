-- The first line of a text, as the library's readers cut it off.
use Rattle.std.proofs.Common.{◌≡◌, ℕ, suc, ◌-◌, ◌<◌, cond, eqb, ltb, ◌&&◌, Bool, true, false, List, [], ◌∷◌, length, get_or, take, sym, refl, ap, ◌∙◌, subst, arith, eqb-true}
use Rattle.std.proofs.lemmas.Bool.{lt-ltb}
use Rattle.std.specs.Io.BufRead.{take_through, drop_through, strip_last, first_piece}
use Rattle.std.proofs.lemmas.Bool.{cond-false}
use Rattle.reading.specs.Newlines.{in_front, lines_of}

behind_first : (b : Bool) (c : ℕ) (xs ys : List ℕ) → cond b (c ∷ xs) (c ∷ ys) ≡ c ∷ cond b xs ys
behind_first true c xs ys = refl
behind_first false c xs ys = refl

strip_at : (c : ℕ) (t : List ℕ) → strip_last 10 (c ∷ t) ≡ cond (eqb (get_or (c ∷ t) (length t) 0) 10) (take (length t) (c ∷ t)) (c ∷ t)
strip_at c t =
    let cs = c ∷ t in
    let last : suc (length t) - 1 ≡ length t = omega arith in
    let some : ltb 0 (suc (length t)) ≡ true = lt-ltb 0 (suc (length t)) (omega arith) in
    ap (λ (b : Bool). cond (b && eqb (get_or cs (suc (length t) - 1) 0) 10) (take (suc (length t) - 1) cs) cs) some ∙ ap (λ (k : ℕ). cond (eqb (get_or cs k 0) 10) (take k cs) cs) last

strip_more : (c : ℕ) (t : List ℕ) → 0 < length t → strip_last 10 (c ∷ t) ≡ c ∷ strip_last 10 t
strip_more c [] h = absurd (omega arith)
strip_more c (d ∷ t) h =
    strip_at c (d ∷ t) ∙ (behind_first (eqb (get_or (d ∷ t) (length t) 0) 10) c (take (length t) (d ∷ t)) (d ∷ t) ∙ ap (λ (xs : List ℕ). c ∷ xs) (sym (strip_at d t)))

some_of : (b : Bool) (c : ℕ) (cs : List ℕ) → 0 < length (cond b (c ∷ []) (c ∷ cs))
some_of true c cs = omega arith
some_of false c cs = omega arith

-- the text's lines, by its first character
next_of : (b : Bool) (c : ℕ) (cs : List ℕ) → eqb c 10 ≡ b → (0 < length cs → lines_of cs ≡ first_piece 10 cs ∷ lines_of (drop_through 10 cs)) →
    lines_of (c ∷ cs) ≡ first_piece 10 (c ∷ cs) ∷ lines_of (drop_through 10 (c ∷ cs))
next_of true c cs e r = subst (λ (x : ℕ). lines_of (x ∷ cs) ≡ first_piece 10 (x ∷ cs) ∷ lines_of (drop_through 10 (x ∷ cs))) (sym (eqb-true c 10 e)) refl
next_of false c [] e r =
    let line = cond-false (eqb c 10) ([] ∷ []) ((c ∷ []) ∷ []) e in
    let piece = ap (strip_last 10) (cond-false (eqb c 10) (c ∷ []) (c ∷ []) e) ∙ cond-false (eqb c 10) [] (c ∷ []) e in
    let rest = ap lines_of (cond-false (eqb c 10) [] [] e) in cc
next_of false c (d ∷ ds) e r =
    let cs = d ∷ ds in
    let line = cond-false (eqb c 10) ([] ∷ lines_of cs) (in_front c (lines_of cs)) e ∙ ap (in_front c) (r (omega arith)) in
    let piece = ap (strip_last 10) (cond-false (eqb c 10) (c ∷ []) (c ∷ take_through 10 cs) e) ∙ strip_more c (take_through 10 cs) (some_of (eqb d 10) d (take_through 10 ds)) in
    let rest = ap lines_of (cond-false (eqb c 10) cs (drop_through 10 cs) e) in cc

-- it is the first of its lines, and the others are those of the rest
pub next_line : (cs : List ℕ) → 0 < length cs → lines_of cs ≡ first_piece 10 cs ∷ lines_of (drop_through 10 cs)
next_line [] h = absurd (omega arith)
next_line (c ∷ cs) h = next_of (eqb c 10) c cs refl (next_line cs)
