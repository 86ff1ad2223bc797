-- Where memory fails in the turn that a line ends, the line is not taken.
use Rattle.std.proofs.Common.{◌≡◌, ℕ, ◌-◌, true, List, [], ◌∷◌, ◌++◌, map, take, length, Ok, Err, Result, MatchResult, vec_items, Vec, sym, ap, ◌∙◌, subst, arith}
use Rattle.std.specs.Result.{is_err}
use Rattle.std.specs.declared.alloc.Global.{Global}
use Rattle.std.proofs.lemmas.List.{length-append, map-append, length-map, take-map}
use Rattle.std.proofs.Math.Seq.{take-append_seam}
use Rattle.runs.specs.Steps.{FailedAt}
use Rattle.runs.proofs.program.Program.take.Goals as goal

-- the last line that was taken is dropped
dropped : (before rest all : List (Vec ℕ Global)) (v : Vec ℕ Global) (n : ℕ) → map vec_items all ≡ map vec_items (before ++ (v ∷ [])) → length all ≡ n → rest ≡ take (n - 1) all → map vec_items rest ≡ map vec_items before
dropped before rest all v n e l f =
    let both : map vec_items all ≡ map vec_items before ++ (vec_items v ∷ []) = e ∙ map-append vec_items before (v ∷ []) in
    let size : n - 1 ≡ length (map vec_items before) = omega (arith, l, ap length both, length-map all vec_items, length-append (map vec_items before) (vec_items v ∷ [])) in
    ap (map vec_items) f ∙ (sym (take-map vec_items (n - 1) all) ∙ (ap (take (n - 1)) both ∙ (ap (λ (k : ℕ). take k (map vec_items before ++ (vec_items v ∷ []))) size ∙ take-append_seam (map vec_items before) (vec_items v ∷ []))))

-- what an answer says that failed, of what it said
of_err : {T E : Type 0} (P R : T → Type 0) (Q S : Type 0) (r : Result T E) → is_err r ≡ true → (Q → S) → MatchResult r P (λ _. Q) → MatchResult r R (λ _. S)
of_err P R Q S (Ok x) e f said = absurd cc
of_err P R Q S (Err x) e f said = f said

pub returns-then-is_err-clause-done : goal.returns-then-is_err-clause-done
returns-then-is_err-clause-done g c =
    let before = c.args.self.now.taken.items in
    let end = c.end_turn-answer.new.self in
    let pushed = c.in_ok-push.ensures.items in
    let lines = ap (map vec_items) pushed ∙ map-append vec_items before (c.args.line ∷ []) in
    of_err _ _ _ _ c.end_turn-answer.result (sym c.is_err.ensures.value ∙ c.if-is_err.true) (λ kept. (
      subst (λ (ls : List (List ℕ)). FailedAt g.K.Keeper.IN_MEMORY ls c.args.self.now.session end.session) lines kept.0,
      dropped before c.pop.new.self.items end.taken.items c.args.line end.taken.len (kept.1 ∙ ap (map vec_items) pushed) (sym end.taken.ok.0) c.pop.ensures.rest,
      kept.2,
    )) c.end_turn-answer.ensures.done
