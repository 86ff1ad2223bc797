-- The words of commands: decimals before words, and the counts of a store.
use Rattle.std.proofs.Common.{◌≡◌, ℕ, ◌^◌, List, [], ◌∷◌, ◌++◌, map, get_or, take, drop, Some, None, sym, refl, ap, ◌∙◌, arith}
use Rattle.std.specs.List.{AllZip}
use Rattle.std.specs.Str.Iter.{LacksByte}
use Rattle.std.proofs.lemmas.List.{append_cancel_left}
use Rattle.reading.specs.Spaced.{Stops, SpacedWords}
use Rattle.reading.specs.Spelling.{WordEnd, decimal_of}
use Rattle.reading.proofs.Cuts.{decimal_whole, cut_word, same_word}
use Rattle.texts.specs.Commands.{StoreSpelled, DecimalBefore}

pub one_number : (limit : ℕ) (cs ds : List ℕ) (u v : ℕ) → cs ≡ ds → decimal_of limit cs ≡ Some u → decimal_of limit ds ≡ Some v → u ≡ v
one_number limit cs ds u v same e f = cc

-- a decimal before a word: where it is cut, and what follows
stops_word : (word rest : List ℕ) → get_or word 0 0 ≡ 32 → Stops (word ++ rest)
stops_word [] rest e = absurd (omega arith)
stops_word (c ∷ word) rest e = λ h. e

pub before_cut : (text word : List ℕ) (r v : ℕ) (rest : List ℕ) → get_or word 0 0 ≡ 32 → WordEnd text r → DecimalBefore text word v rest →
    (decimal_of (2 ^ 64) (take r text) ≡ Some v) × (drop r text ≡ word ++ rest)
before_cut text word r v rest h at b =
    let cut = cut_word text b.0 (word ++ rest) r at (decimal_whole (2 ^ 64) b.0 v b.2) (stops_word word rest h) b.1 in (ap (decimal_of (2 ^ 64)) cut.0 ∙ b.2, cut.1)

pub before_same : (text word : List ℕ) (u v : ℕ) (p q : List ℕ) → get_or word 0 0 ≡ 32 → DecimalBefore text word u p → DecimalBefore text word v q → (u ≡ v) × (p ≡ q)
before_same text word u v p q h b d =
    let same = same_word b.0 d.0 (word ++ p) (word ++ q) (decimal_whole (2 ^ 64) b.0 u b.2) (decimal_whole (2 ^ 64) d.0 v d.2) (stops_word word p h) (stops_word word q h) (sym b.1 ∙ d.1) in
    (one_number (2 ^ 64) b.0 d.0 u v same.0 b.2 d.2, append_cancel_left word p q same.1)

pub not_both : (limit : ℕ) (cs ds : List ℕ) (v : ℕ) → decimal_of limit cs ≡ None → cs ≡ ds → decimal_of limit ds ≡ Some v → ⊥
not_both limit cs ds v n e f = cc

-- the counts of a store are words, each after one space, since a decimal holds none
stored_from : (ws : List (List ℕ)) (vs : List ℕ) → AllZip (λ w v. LacksByte 32 w × (decimal_of (2 ^ 32) w ≡ Some v)) ws vs → map (decimal_of (2 ^ 32)) ws ≡ map (λ v. Some v) vs
stored_from [] [] m = refl
stored_from [] (v ∷ vs) m = absurd m
stored_from (w ∷ ws) [] m = absurd m
stored_from (w ∷ ws) (v ∷ vs) m = let e = m.0.1 in let r = stored_from ws vs m.1 in cc

pub stored : (cs vs : List ℕ) → SpacedWords (λ w v. decimal_of (2 ^ 32) w ≡ Some v) cs vs → StoreSpelled cs vs
stored cs vs s = (s.0, s.1, stored_from s.0 vs s.2)

words_from : (ws : List (List ℕ)) (vs : List ℕ) → map (decimal_of (2 ^ 32)) ws ≡ map (λ v. Some v) vs → AllZip (λ w v. LacksByte 32 w × (decimal_of (2 ^ 32) w ≡ Some v)) ws vs
words_from [] [] m = tt
words_from [] (v ∷ vs) m = absurd cc
words_from (w ∷ ws) [] m = absurd cc
words_from (w ∷ ws) (v ∷ vs) m =
    let e : decimal_of (2 ^ 32) w ≡ Some v = cc in
    let rest : map (decimal_of (2 ^ 32)) ws ≡ map (λ v. Some v) vs = cc in ((decimal_whole (2 ^ 32) w v e, e), words_from ws vs rest)

pub stored_words : (cs vs : List ℕ) → StoreSpelled cs vs → SpacedWords (λ w v. decimal_of (2 ^ 32) w ≡ Some v) cs vs
stored_words cs vs s = (s.0, s.1, words_from s.0 vs s.2)
