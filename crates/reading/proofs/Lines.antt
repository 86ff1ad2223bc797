-- Lines: the numbers of a line, one after the other, and what its reader says of them.
use Rattle.std.proofs.Common.{◌≡◌, ℕ, List, [], ◌∷◌, ◌++◌, map, Some, None, Option, sym, refl, ap, ◌∙◌, subst, MatchOption}
use Rattle.std.specs.List.{flat_map, AllZip}
use Rattle.std.specs.Str.Iter.{LacksByte}
use Rattle.std.proofs.lemmas.List.{append_cancel_left}
use Rattle.hash.specs.Value.{value_of, bytes_of}
use Rattle.hash.specs.declared.number.Number.{Number}
use Rattle.hash.proofs.Numbers.{bytes_back, with_bytes}
use Rattle.reading.specs.Spaced.{SpacedWords}
use Rattle.hash.specs.Hex.{hex}
use Rattle.signatures.specs.Lines.{numbers_line}
use Rattle.reading.proofs.Cuts.{hex_whole}

-- a number after one space
abbrev pub spaced : Number → List ℕ
spaced n = 32 ∷ hex n.bytes

-- a number is written by its meaning
by_values : (ns : List Number) → flat_map spaced ns ≡ flat_map (λ v. 32 ∷ hex (bytes_of v)) (map value_of ns)
by_values [] = refl
by_values (n ∷ ns) = let b = bytes_back n in let r = by_values ns in cc

-- and for every row of natural numbers there are some that are written like them
pub numbered : (vs : List ℕ) → (ns : List Number) × (flat_map spaced ns ≡ flat_map (λ v. 32 ∷ hex (bytes_of v)) vs)
numbered [] = ([], refl)
numbered (v ∷ vs) =
    let n = with_bytes v in
    let r = numbered vs in
    let one = n.1 in
    let more = r.1 in (n.0 ∷ r.0, cc)

-- numbers as words, each after one space
words_numbers : (ws : List (List ℕ)) (ns : List Number) → AllZip (λ w n. LacksByte 32 w × (w ≡ hex n.bytes)) ws ns → flat_map (λ w. 32 ∷ w) ws ≡ flat_map spaced ns
words_numbers [] [] m = refl
words_numbers [] (n ∷ ns) m = absurd m
words_numbers (w ∷ ws) [] m = absurd m
words_numbers (w ∷ ws) (n ∷ ns) m = let e = m.0.1 in let r = words_numbers ws ns m.1 in cc

numbers_words : (ns : List Number) → SpacedWords (λ w n. w ≡ hex n.bytes) (flat_map spaced ns) ns
numbers_words [] = ([], refl, tt)
numbers_words (n ∷ ns) = let r = numbers_words ns in (hex n.bytes ∷ r.0, ap (λ (t : List ℕ). spaced n ++ t) r.1, ((hex_whole n.bytes, refl), r.2))

-- what a line of numbers is, by what is read of it behind its word
pub line_read : {A : Type 0} (items : A → List Number) (word rest line : List ℕ) (o : Option A) → line ≡ word ++ rest →
    MatchOption o ((ns : List Number) → SpacedWords (λ w n. w ≡ hex n.bytes) rest ns → ⊥) (λ v. SpacedWords (λ w n. w ≡ hex n.bytes) rest (items v)) →
    MatchOption o ((vs : List ℕ) → line ≡ numbers_line word vs → ⊥) (λ v. line ≡ numbers_line word (map value_of (items v)))
line_read items word rest line None e none = λ vs f.
    let n = numbered vs in
    let same : flat_map spaced n.0 ≡ rest = n.1 ∙ append_cancel_left word _ rest (sym f ∙ e) in
    none n.0 (subst (λ (t : List ℕ). SpacedWords (λ w n. w ≡ hex n.bytes) t n.0) same (numbers_words n.0))
line_read items word rest line (Some v) e s = e ∙ ap (λ (t : List ℕ). word ++ t) (s.1 ∙ (words_numbers s.0 (items v) s.2 ∙ by_values (items v)))
