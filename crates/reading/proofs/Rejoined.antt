-- A text is its lines, with a newline behind each.
use Rattle.std.proofs.Common.{◌≡◌, ℕ, zero, suc, eqb, ◌⊎◌, inl, inr, List, [], ◌∷◌, ◌++◌, refl, ap, sym, subst, arith}
use Rattle.std.specs.Str.Iter.{LacksByte}
use Rattle.std.proofs.lemmas.Bool.{cases_Bool, eqb-true, eqb-false}
use Rattle.hash.specs.Members.{In}
use Rattle.reading.specs.Newlines.{in_front, lines_of, joined, EndsFull, LinesJoined}

-- no line has a newline in it
front_lacks : (c : ℕ) (l : List ℕ) → (c ≡ 10 → ⊥) → LacksByte 10 l → LacksByte 10 (c ∷ l)
front_lacks c l not lacks zero h e = not e
front_lacks c l not lacks (suc k) h e = lacks k (omega arith) e

none_lacks : LacksByte 10 []
none_lacks k h e = omega arith

in_front_lacks : (c : ℕ) (ls : List (List ℕ)) → (c ≡ 10 → ⊥) → ((l : List ℕ) → In l ls → LacksByte 10 l) → (l : List ℕ) → In l (in_front c ls) → LacksByte 10 l
in_front_lacks c [] not lacks l (inl e) = subst (LacksByte 10) (sym e) (front_lacks c [] not none_lacks)
in_front_lacks c [] not lacks l (inr n) = absurd n
in_front_lacks c (x ∷ ls) not lacks l (inl e) = subst (LacksByte 10) (sym e) (front_lacks c x not (lacks x (inl refl)))
in_front_lacks c (x ∷ ls) not lacks l (inr i) = lacks l (inr i)

-- a text, and its lines with a newline behind each
abbrev Again : List ℕ → List (List ℕ) → Type 0
Again cs ls = (joined ls ≡ cs) ⊎ ((joined ls ≡ cs ++ (10 ∷ [])) × EndsFull ls)

-- one character more in front, which is no newline
in_front_again : (c : ℕ) (cs : List ℕ) (ls : List (List ℕ)) → Again cs ls → Again (c ∷ cs) (in_front c ls)
in_front_again c cs [] (inl e) = inr (ap (λ (x : List ℕ). c ∷ (x ++ (10 ∷ []))) e, ([], c ∷ [], refl, omega arith))
in_front_again c cs [] (inr (e, ([], l, is, full))) = absurd cc
in_front_again c cs [] (inr (e, (y ∷ before, l, is, full))) = absurd cc
in_front_again c cs (x ∷ ls) (inl e) = inl (ap (λ (y : List ℕ). c ∷ y) e)
in_front_again c cs (x ∷ ls) (inr (e, ([], l, is, full))) = inr (ap (λ (y : List ℕ). c ∷ y) e, ([], c ∷ x, cc, omega arith))
in_front_again c cs (x ∷ ls) (inr (e, (y ∷ before, l, is, full))) = inr (ap (λ (z : List ℕ). c ∷ z) e, ((c ∷ x) ∷ before, l, cc, full))

newline_again : (cs : List ℕ) (ls : List (List ℕ)) → Again cs ls → Again (10 ∷ cs) ([] ∷ ls)
newline_again cs ls (inl e) = inl (ap (λ (y : List ℕ). 10 ∷ y) e)
newline_again cs ls (inr (e, (before, l, is, full))) = inr (ap (λ (y : List ℕ). 10 ∷ y) e, ([] ∷ before, l, ap (λ (x : List (List ℕ)). [] ∷ x) is, full))

newline_lacks : (ls : List (List ℕ)) → ((l : List ℕ) → In l ls → LacksByte 10 l) → (l : List ℕ) → In l ([] ∷ ls) → LacksByte 10 l
newline_lacks ls f l (inl e) = subst (LacksByte 10) (sym e) none_lacks
newline_lacks ls f l (inr i) = f l i

all_lack : (cs : List ℕ) (l : List ℕ) → In l (lines_of cs) → LacksByte 10 l
all_lack [] l i = absurd i
all_lack (c ∷ cs) l i =
    elim (cases_Bool (eqb c 10)) [
      | inl t ↦ newline_lacks (lines_of cs) (all_lack cs) l (rw t at i)
      | inr f ↦ in_front_lacks c (lines_of cs) (eqb-false c 10 f) (all_lack cs) l (rw f at i)
    ]

again : (cs : List ℕ) → Again cs (lines_of cs)
again [] = inl refl
again (c ∷ cs) =
    elim (cases_Bool (eqb c 10)) [
      | inl t ↦ rw (t, eqb-true c 10 t) (newline_again cs (lines_of cs) (again cs))
      | inr f ↦ rw f (in_front_again c cs (lines_of cs) (again cs))
    ]

pub lines_joined_lem : LinesJoined
lines_joined_lem cs = (all_lack cs, again cs)
