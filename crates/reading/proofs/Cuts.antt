-- Words: where one ends, that a text is cut into them in one way only, and that numbers are written as words.
use Rattle.std.proofs.Common.{◌≡◌, ◌≢◌, ℕ, zero, suc, ◌/◌, ◌%◌, ◌<◌, ◌≤◌, min, ◌⊎◌, true, List, [], ◌∷◌, ◌++◌, length, get_or, take, drop, Some, sym, refl, ap, ◌∙◌, subst, inl, inr, arith}
use Rattle.std.specs.List.{flat_map}
use Rattle.std.specs.Str.Iter.{LacksByte}
use Rattle.std.proofs.lemmas.List.{drop_at, get_or-take, get_or_append_left, length-append, length-take-le, take_at}
use Rattle.std.proofs.lemmas.Option.{cond_some}
use Rattle.std.proofs.lemmas.Bool.{and_parts, leb-true}
use Rattle.std.proofs.lemmas.Bool.Decides.{nat_tests}
use Rattle.reading.specs.Spaced.{Stops, FirstWord, Begins, CutsAt, SpacedWords}
use Rattle.hash.specs.Hex.{hex_digit, hex}
use Rattle.hash.specs.Members.{In}
use Rattle.hash.specs.declared.number.Number.{Number}
use Rattle.reading.proofs.Hexes.{length-hex}
use Rattle.reading.specs.Spelling.{WordEnd, is_digit, all_digits, digits_value, decimal_of}

-- no digit is a character that comes before the digits, as a space and a newline do
digits_lack : (c : ℕ) → c < 48 → (cs : List ℕ) → all_digits cs ≡ true → LacksByte c cs
digits_lack c low [] e k h s = omega arith
digits_lack c low (d ∷ cs) e zero h s = let digit = leb-true 48 d (and_parts _ _ (and_parts (is_digit d) (all_digits cs) e).0).0 in omega (arith, digit)
digits_lack c low (d ∷ cs) e (suc k) h s = digits_lack c low cs (and_parts (is_digit d) (all_digits cs) e).1 k (omega arith) s

pub decimal_lacks : (c : ℕ) → c < 48 → (limit : ℕ) (cs : List ℕ) (v : ℕ) → decimal_of limit cs ≡ Some v → LacksByte c cs
decimal_lacks c low limit cs v e = digits_lack c low cs (and_parts (all_digits cs) _ (and_parts _ _ (cond_some _ (digits_value cs) v e).0).1).0

pub decimal_whole : (limit : ℕ) (cs : List ℕ) (v : ℕ) → decimal_of limit cs ≡ Some v → LacksByte 32 cs
decimal_whole limit cs v e = decimal_lacks 32 (omega arith) limit cs v e

digit_above : (d : ℕ) → hex_digit d < 48 → ⊥
digit_above d = grind (arith, nat_tests)

pub hex_lacks : (c : ℕ) → c < 48 → (bs : List ℕ) → LacksByte c (hex bs)
hex_lacks c low [] k h s = omega arith
hex_lacks c low (b ∷ bs) zero h s = digit_above (b / 16) (omega (arith, s, low))
hex_lacks c low (b ∷ bs) (suc zero) h s = digit_above (b % 16) (omega (arith, s, low))
hex_lacks c low (b ∷ bs) (suc (suc k)) h s = hex_lacks c low bs k (omega arith) s

pub hex_whole : (bs : List ℕ) → LacksByte 32 (hex bs)
hex_whole bs = hex_lacks 32 (omega arith) bs

-- what stands behind a word begins where the word ends
after_word : (w rest : List ℕ) → Stops rest → length w < length (w ++ rest) → get_or (w ++ rest) (length w) 0 ≡ 32
after_word [] rest stops h = stops h
after_word (c ∷ w) rest stops h = after_word w rest stops (omega arith)

-- the first word, of a text that is a word and what may stand behind one, ends where it does
whole_end : (w rest : List ℕ) → LacksByte 32 w → Stops rest → WordEnd (w ++ rest) (length w)
whole_end w rest whole stops =
    record {
      within = omega (arith, length-append w rest);
      before = λ k h e. whole k h (sym (get_or_append_left w rest 0 k h) ∙ e);
      found = after_word w rest stops;
    }

-- and nowhere else
one_end : (text : List ℕ) (r s : ℕ) → WordEnd text r → WordEnd text s → r ≡ s
one_end text r s a b =
    let shorter : r < s → ⊥ = λ h. b.before r h (a.found (omega (arith, b.within))) in
    let longer : s < r → ⊥ = λ h. a.before s h (b.found (omega (arith, a.within))) in omega arith

-- a text cut where its first word ends
pub cut_word : (text w rest : List ℕ) (r : ℕ) → WordEnd text r → LacksByte 32 w → Stops rest → text ≡ w ++ rest → (take r text ≡ w) × (drop r text ≡ rest)
cut_word text w rest r at whole stops e =
    let end = one_end (w ++ rest) (length w) r (whole_end w rest whole stops) (subst (λ (t : List ℕ). WordEnd t r) e at) in
    (ap (take r) e ∙ take_at w rest r end, ap (drop r) e ∙ drop_at w rest r end)

-- a text begins with one word only
pub same_word : (v w p q : List ℕ) → LacksByte 32 v → LacksByte 32 w → Stops p → Stops q → v ++ p ≡ w ++ q → (v ≡ w) × (p ≡ q)
same_word v w p q a b s t e =
    let cut = cut_word (v ++ p) w q (length v) (whole_end v p a s) b t e in (sym (take_at v p (length v) refl) ∙ cut.0, sym (drop_at v p (length v) refl) ∙ cut.1)

-- words, each after one space: the first one, and what is left behind it
words_stop : (ws : List (List ℕ)) → Stops (flat_map (λ w. 32 ∷ w) ws)
words_stop [] = λ h. absurd (omega arith)
words_stop (w ∷ ws) = λ h. refl

-- a text is cut into words in one way only
pub same_words : (ws us : List (List ℕ)) → ((w : List ℕ) → In w ws → LacksByte 32 w) → ((w : List ℕ) → In w us → LacksByte 32 w) → flat_map (λ w. 32 ∷ w) ws ≡ flat_map (λ w. 32 ∷ w) us → ws ≡ us
same_words [] [] a b e = refl
same_words [] (u ∷ us) a b e = absurd (omega (arith, ap length e))
same_words (w ∷ ws) [] a b e = absurd (omega (arith, ap length e))
same_words (w ∷ ws) (u ∷ us) a b e =
    let same = same_word w u _ _ (a w (inl refl)) (b u (inl refl)) (words_stop ws) (words_stop us) (ap (drop 1) e) in
    let first = same.0 in
    let rest = same_words ws us (λ v i. a v (inr i)) (λ v i. b v (inr i)) same.1 in
    cc

module _ {V : Type 0} (spells : List ℕ → V → Type 0) where
  -- a text that is words and not empty begins with one
  abbrev pub Begun : List ℕ → Type 0
  Begun left = (w : List ℕ) × (v : V) × (rest : List ℕ) × (us : List V) × FirstWord spells left w v rest × SpacedWords spells rest us

  pub begun : (left : List ℕ) (vs : List V) → 0 < length left → SpacedWords spells left vs → Begun left
  begun left [] h ([], e, m) = absurd (omega (arith, ap length e))
  begun left (v ∷ vs) h ([], e, m) = absurd m
  begun left [] h (w ∷ ws, e, m) = absurd m
  begun left (v ∷ vs) h (w ∷ ws, e, m) =
      (w, v, flat_map (λ x. 32 ∷ x) ws, vs, record { text = e; whole = m.0.0; stops = words_stop ws; spelled = m.0.1 }, (ws, refl, m.1))

  pub rest_words : (left w rest : List ℕ) (v : V) (vs : List V) → FirstWord spells left w v rest → SpacedWords spells left vs → (us : List V) × SpacedWords spells rest us
  rest_words left w rest v vs f s =
      let k = begun left vs (omega (arith, ap length f.text)) s in
      let both : w ++ rest ≡ k.0 ++ k.2 = ap (drop 1) (sym f.text ∙ k.4.text) in
      let same = same_word w k.0 rest k.2 f.whole k.4.whole f.stops k.4.stops both in
      (k.3, subst (λ (t : List ℕ). SpacedWords spells t k.3) (sym same.1) k.5)

  pub one_more : (left w rest : List ℕ) (v : V) (vs : List V) → FirstWord spells left w v rest → SpacedWords spells rest vs → SpacedWords spells left (v ∷ vs)
  one_more left w rest v vs f s = (w ∷ s.0, f.text ∙ ap (λ (r : List ℕ). 32 ∷ (w ++ r)) s.1, ((f.whole, f.spelled), s.2))

  -- a text is cut where its first word ends
  pub cuts_at_end : (text : List ℕ) (r : ℕ) → WordEnd text r → CutsAt spells text r
  cuts_at_end text r end = record { within = end.within; whole = λ _ _. end; only = λ s _ other _. one_end text r s end other }

  -- a word that spells a value is cut off, and nothing else that does
  pub cut_off : (text w rest : List ℕ) (v : V) (r : ℕ) → CutsAt spells text r → LacksByte 32 w → Stops rest → text ≡ w ++ rest → spells w v → take r text ≡ w
  cut_off text w rest v r cuts whole stops e s =
      let front : take (length w) text ≡ w = ap (take (length w)) e ∙ take_at w rest (length w) refl in
      let end : WordEnd text (length w) = subst (λ (t : List ℕ). WordEnd t (length w)) (sym e) (whole_end w rest whole stops) in
      let same = cuts.only (length w) v end (subst (λ (x : List ℕ). spells x v) (sym front) s) in
      ap (λ (k : ℕ). take k text) same ∙ front

  -- the first word that is read, or any behind it, shows that the text begins with one
  pub word_read : (text left w rest : List ℕ) (v : V) → (left ≡ text) ⊎ Begins spells text → FirstWord spells left w v rest → Begins spells text
  word_read text left w rest v (inl all) f = (w, v, rest, subst (λ (t : List ℕ). FirstWord spells t w v rest) all f)
  word_read text left w rest v (inr begins) f = begins

-- A number's word has 64 digits, and so ends there or nowhere.
abbrev SpellsNumber : List ℕ → Number → Type 0
SpellsNumber w n = w ≡ hex n.bytes

number_long : (text : List ℕ) (r : ℕ) (n : Number) → r ≤ length text → SpellsNumber (take r text) n → r ≡ 64
number_long text r n within s = let long = sym (length-take-le r text within) ∙ ap length s ∙ length-hex n.bytes in omega (arith, long, n.sized)

pub number_cut : (text : List ℕ) (r : ℕ) → r ≡ min (length text) 64 → (64 < length text → get_or text 64 0 ≡ 32) → CutsAt SpellsNumber text r
number_cut text r e found =
    let within : r ≤ length text = omega (arith, e) in
    record {
      within = within;
      whole = λ n s.
          let long = number_long text r n within s in
          record {
            within = within;
            before = λ k h at. hex_whole n.bytes k (omega (arith, sym (ap length s) ∙ length-take-le r text within)) (sym (ap (λ (w : List ℕ). get_or w k 0) s) ∙ get_or-take r text k 0 h ∙ at);
            found = λ h. ap (λ (k : ℕ). get_or text k 0) long ∙ found (omega (arith, long));
          };
      only = λ s n end spelled. let long = number_long text s n end.within spelled in omega (arith, e, long, end.within);
    }

pub number_uncut : (text : List ℕ) → 64 < length text → get_or text 64 0 ≢ 32 → CutsAt SpellsNumber text 0
number_uncut text longer other =
    record {
      within = omega arith;
      whole = λ n s. absurd (omega (arith, number_long text 0 n (omega arith) s));
      only = λ s n end spelled.
          let long = number_long text s n end.within spelled in
          absurd (other (sym (ap (λ (k : ℕ). get_or text k 0) long) ∙ end.found (omega (arith, long))));
    }
