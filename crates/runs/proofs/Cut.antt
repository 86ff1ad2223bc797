-- Lines are cut into turns: none is left out, none is in two, and each turn is one line, or a `look` and those behind it.
use Rattle.std.proofs.Common.{◌≡◌, ℕ, ◌<◌, true, false, inl, inr, List, [], ◌∷◌, ◌++◌, length, refl, ap, sym, ◌∙◌, subst, arith, append_assoc}
use Rattle.std.specs.List.{flat_map}
use Rattle.std.proofs.lemmas.Bool.{cases_Bool, leb-true, leb-false, false≢true}
use Rattle.std.proofs.lemmas.List.{length-append}
use Rattle.texts.specs.Commands.{takes_four}
use Rattle.runs.specs.Turns.{whole, turns_from}
use Rattle.runs.specs.Laws.{OneTurn, LinesCut}

-- one after the other they are the lines again
again : (taken lines : List (List ℕ)) → flat_map (λ t. t) (turns_from taken lines) ≡ taken ++ lines
unfolding turns_from
again [] [] = refl
again (l ∷ taken) [] = refl
again taken (line ∷ lines) =
    elim (cases_Bool (whole (taken ++ (line ∷ [])))) [
      | inl t ↦ rw t (ap (λ (ls : List (List ℕ)). (taken ++ (line ∷ [])) ++ ls) (again [] lines) ∙ append_assoc taken (line ∷ []) lines)
      | inr f ↦ rw f (again (taken ++ (line ∷ [])) lines ∙ append_assoc taken (line ∷ []) lines)
    ]

-- what a `look` has taken so far
abbrev Waits : List (List ℕ) → Type 0
Waits [] = Unit {0}
Waits (line ∷ behind) = (takes_four line ≡ true) × (length behind < 4)

-- one line more makes a turn
ends : (taken : List (List ℕ)) (line : List ℕ) (after : List (List (List ℕ))) → Waits taken → whole (taken ++ (line ∷ [])) ≡ true → OneTurn (taken ++ (line ∷ [])) after
ends [] line after w e =
    elim (cases_Bool (takes_four line)) [
      | inl t ↦ absurd (false≢true (rw t at e))
      | inr f ↦ (line, [], refl, omega arith, λ _. rw f refl)
    ]
ends (first ∷ behind) line after w e =
    let more = length-append behind (line ∷ []) in
    let four = leb-true 4 (length (behind ++ (line ∷ []))) (rw w.0 at e) in
    (first, behind ++ (line ∷ []), refl, rw w.0 (omega (arith, w.1, more)), λ _. rw w.0 (omega (arith, w.1, more, four)))

-- or is waited for
goes_on : (taken : List (List ℕ)) (line : List ℕ) → Waits taken → whole (taken ++ (line ∷ [])) ≡ false → Waits (taken ++ (line ∷ []))
goes_on [] line w e =
    elim (cases_Bool (takes_four line)) [ inl t ↦ (t, omega arith) | inr f ↦ absurd (false≢true (sym (rw f at e))) ]
goes_on (first ∷ behind) line w e =
    let more = length-append behind (line ∷ []) in
    let four = leb-false 4 (length (behind ++ (line ∷ []))) (rw w.0 at e) in
    (w.0, omega (arith, four))

turns : (taken lines : List (List ℕ)) → Waits taken → (before after : List (List (List ℕ))) (t : List (List ℕ)) → turns_from taken lines ≡ before ++ (t ∷ after) → OneTurn t after
unfolding turns_from
turns [] [] w [] after t e = absurd cc
turns [] [] w (x ∷ before) after t e = absurd cc
turns (line ∷ behind) [] w [] after t e =
    let last : (line ∷ behind ≡ t) × ([] ≡ after) = (cc, cc) in
    (line, behind, sym last.0, rw w.0 (omega (arith, w.1)), λ more. absurd (more (sym last.1)))
turns (line ∷ behind) [] w (x ∷ []) after t e = absurd cc
turns (line ∷ behind) [] w (x ∷ y ∷ before) after t e = absurd cc
turns taken (line ∷ lines) w [] after t e =
    elim (cases_Bool (whole (taken ++ (line ∷ [])))) [
      | inl now ↦
          let at : (taken ++ (line ∷ [])) ∷ turns_from [] lines ≡ t ∷ after = rw now at e in
          let first : taken ++ (line ∷ []) ≡ t = cc in
          subst (λ (u : List (List ℕ)). OneTurn u after) first (ends taken line after w now)
      | inr f ↦ turns (taken ++ (line ∷ [])) lines (goes_on taken line w f) [] after t (rw f at e)
    ]
turns taken (line ∷ lines) w (x ∷ before) after t e =
    elim (cases_Bool (whole (taken ++ (line ∷ [])))) [
      | inl now ↦
          let at : (taken ++ (line ∷ [])) ∷ turns_from [] lines ≡ x ∷ (before ++ (t ∷ after)) = rw now at e in
          let rest : turns_from [] lines ≡ before ++ (t ∷ after) = cc in
          turns [] lines tt before after t rest
      | inr f ↦ turns (taken ++ (line ∷ [])) lines (goes_on taken line w f) (x ∷ before) after t (rw f at e)
    ]

pub lines_cut_lem : LinesCut
lines_cut_lem lines = (again [] lines, turns [] lines tt)
