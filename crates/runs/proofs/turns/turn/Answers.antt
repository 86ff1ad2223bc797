-- The first line is read as a command, and what it is answered is the turn's; or it is none, and nothing was changed.
use Rattle.std.proofs.Common.{◌≡◌, ℕ, Bool, true, false, List, ◌∷◌, map, Ok, Err, Some, Option, Result, String, MatchResult, vec_items, string_bytes, inl, inr, refl, sym, ap, ◌∙◌, subst}
use Rattle.std.specs.Option.{option_map}
use Rattle.std.specs.declared.alloc.AllocError.{AllocError}
use Rattle.std.specs.declared.alloc.Global.{Global}
use Rattle.std.proofs.lemmas.Bool.{false≢true}
use Rattle.std.proofs.lemmas.Option.{MatchOption-at_none, MatchOption-at_some}
use Rattle.sha256.specs.Rows.{row_hash}
use Rattle.counter.specs.Cells.{DiskState}
use Rattle.texts.specs.Commands.{Spelled}
use Rattle.texts.specs.SignatureLines.{line_after, LinesAre}
use Rattle.texts.specs.declared.command.Command.{Command}
use Rattle.texts.specs.declared.command.Command.TheVariants.{Store, Sign}
use Rattle.texts.specs.declared.signature.SignatureLines.{SignatureLines}
use Rattle.texts.proofs.OneMeaning.{SameCommand, one_command}
use Rattle.sessions.specs.Sessions.{FewerWrites, Executed, Failed, Counted, StaysInStep, Answered, PromisedStrings}
use Rattle.sessions.specs.declared.session.Session.{Session}
use Rattle.runs.specs.Steps.{allowed, Readable, Turned, FailedAt, KeptInStep}
use Rattle.runs.proofs.turns.turn.Goals.{in_default-2-via-in-Some-2+else-is_allowed, in_default-2-via-in_default-2}
use Rattle.runs.proofs.turns.turn.Goals as goal

-- what `execute` says of a command in one session, where it was executed or memory failed
abbrev Says : (s q : Session) → Command → SignatureLines → Session → Result (Option (String Global)) AllocError → Type 0
Says s q c four s₁ r = MatchResult r (λ o. Executed q c s₁ × Answered row_hash q c four o × PromisedStrings q c four o) (λ _. Failed s q c s₁)

-- memory failed in a command that the first line is
failed : (b : Bool) (s q s₁ : Session) (lines : List (List ℕ)) (line : List ℕ) (behind : List (List ℕ)) (c : Command) → lines ≡ line ∷ behind → Readable b line c → FewerWrites b c s q → Failed s q c s₁ → FailedAt b lines s s₁
unfolding FailedAt
failed b s q s₁ lines line behind (Sign t) e sp few (inl same) = inl same
failed b s q s₁ lines line behind (Sign t) e sp few (inr after) = inr (t, behind, q, e ∙ ap (λ (l : List ℕ). l ∷ behind) sp.1, few, after)
failed b s q s₁ lines line behind c e sp few same = inl same

-- a command that was executed, or in which memory failed
commanded : (P : Type 0) (r : Result (Option (String Global)) AllocError) (b : Bool) (n : ℕ) (s q s₁ : Session) (lines : List (List ℕ)) (line : List ℕ) (behind : List (List ℕ)) (c : Command) (four : SignatureLines) →
    lines ≡ line ∷ behind → Readable b line c → LinesAre four (line_after n 1) behind → FewerWrites b c s q → Says s q c four s₁ r →
    MatchResult r (λ o. P → Turned b n s (record { typed = lines; printed = option_map string_bytes o }) s₁) (λ _. FailedAt b lines s s₁)
commanded P (Ok o) b n s q s₁ lines line behind c four e sp are few done = λ _. (line, behind, e, inl (c, four, o, q, few, sp, are, done.0, done.1, refl))
commanded P (Err x) b n s q s₁ lines line behind c four e sp are few done = failed b s q s₁ lines line behind c e sp few done

-- a command that can be read on a disk is no `store`
stays : (b : Bool) (c : Command) (line : List ℕ) (d d₁ : DiskState) (s s₁ : Session) → Readable b line c → Counted s c s₁ → StaysInStep b c d s d₁ s₁ → KeptInStep b d (vec_items s.store) d₁ (vec_items s₁.store)
stays true c line d d₁ s s₁ sp counts step = λ e. absurd (false≢true (sym e))
stays false (Store v) line d d₁ s s₁ (e, sp) counts step = absurd (false≢true e)
stays false c line d d₁ s s₁ sp counts step = λ _. (counts, step)

-- what is a command at all is so by its word
same_allowed : (b : Bool) (c d : Command) → SameCommand c d → allowed b c ≡ allowed b d
same_allowed b (Store v) (Store w) same = refl
same_allowed b (Store v) d same = absurd same
same_allowed b c (Store w) same = absurd same
same_allowed b c d same = refl

-- a line that spells a command spells no other, so that it can be read as none where that one is none
none_other : (b : Bool) (line : List ℕ) (c : Command) → allowed b c ≡ false → Spelled line c → (d : Command) → Readable b line d → ⊥
none_other b line c e sp d r = false≢true (sym e ∙ (same_allowed b c d (one_command line c d sp r.1) ∙ r.0))

pub returns-in-Some-2-clause-turned : goal.returns-in-Some-2-clause-turned
returns-in-Some-2-clause-turned g c =
    let lines = ap (map vec_items) c.in-Some.ensures.cases.0 in
    let spelled = subst (λ (x : List ℕ). Spelled x c.in-Some-2.command) c.deref.ensures.value (MatchOption-at_some _ _ c.in-Some-2.command c.in-Some-2.is c.in_ok-command.ensures.read) in
    let is = ap (λ (b : Bool). allowed b c.in-Some-2.command) (sym c.IN_MEMORY.ensures) ∙ (sym c.is_allowed.ensures ∙ c.if-is_allowed.true) in
    let four = c.new-four.ensures in
    let done = c.execute.ensures.done in
    commanded _ c.execute.result g.K.Keeper.IN_MEMORY c.args.number c.args.session.now done.0 c.execute.new.self _ _ _ c.in-Some-2.command c.new-four.result lines (is, spelled) (four.0 ∙ c.saturating_add.ensures, four.1, four.2, four.3, four.4) done.1 done.2

pub returns-in-Some-2-clause-in_step : goal.returns-in-Some-2-clause-in_step
returns-in-Some-2-clause-in_step g c =
    let spelled = MatchOption-at_some _ _ c.in-Some-2.command c.in-Some-2.is c.in_ok-command.ensures.read in
    let is = ap (λ (b : Bool). allowed b c.in-Some-2.command) (sym c.IN_MEMORY.ensures) ∙ (sym c.is_allowed.ensures ∙ c.if-is_allowed.true) in
    stays g.K.Keeper.IN_MEMORY c.in-Some-2.command _ _ _ _ _ (is, spelled) c.execute.ensures.counts c.execute.ensures.in_step

pub returns-in_ok-format-in_default-2-clause-turned : goal.returns-in_ok-format-in_default-2-clause-turned
returns-in_ok-format-in_default-2-clause-turned g c =
    let lines = ap (map vec_items) c.in-Some.ensures.cases.0 in
    let none : (d : Command) → Readable g.K.Keeper.IN_MEMORY c.deref.result.now d → ⊥ =
    elim c.in_default-2.branch [
      | in_default-2-via-in-Some-2+else-is_allowed w ↦
          none_other g.K.Keeper.IN_MEMORY c.deref.result.now w.in-Some-2.command (ap (λ (b : Bool). allowed b w.in-Some-2.command) (sym w.IN_MEMORY.ensures) ∙ (sym w.is_allowed.ensures ∙ w.if-is_allowed.false)) (MatchOption-at_some _ _ w.in-Some-2.command w.in-Some-2.is c.in_ok-command.ensures.read)
      | in_default-2-via-in_default-2 w ↦ λ d r. MatchOption-at_none _ _ w.in_default-2.is c.in_ok-command.ensures.read d r.1
    ]
    in
    λ _. (
      _,
      _,
      lines,
      inr (
        λ k sp. none k (subst (λ (x : List ℕ). Readable g.K.Keeper.IN_MEMORY x k) (sym c.deref.ensures.value) sp),
        ap Some c.in_ok-format-in_default-2.ensures.ok,
        (refl, refl, refl),
      ),
    )
