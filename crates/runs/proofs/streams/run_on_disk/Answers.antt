-- The store is what the disk holds, and where nothing waits the two are in step.
use Rattle.std.proofs.Common.{◌≡◌, ℕ, Bool, false, inl, inr, List, Some, None, Option, Result, vec_items, refl, ap, ◌∙◌, subst}
use Rattle.counter.specs.Cells.{DiskState}
use Rattle.counter.proofs.Found.{nothing_waits}
use Rattle.runs.specs.Turns.{Turn}
use Rattle.runs.specs.Runs.{Ended, KeptOnDisk, KeptAll, CountKept}
use Rattle.runs.proofs.streams.run_on_disk.Goals as goal

-- what holds of the turns of a run, by what is known of them
ended_weaker : {E : Type 0} (b : Bool) (m : List ℕ) (P Q : List Turn → Type 0) (input before after : Option (List ℕ)) (r : Result (Unit {0}) E) → ((ts : List Turn) → P ts → Q ts) → Ended b m P input before after r → Ended b m Q input before after r
ended_weaker b m P Q None before after r f e = tt
ended_weaker b m P Q (Some xs) before after r f (printed, ts, more, left, appended, run, holds, ok) = (printed, ts, more, left, appended, run, f ts holds, ok)

kept_all : (d d₁ : DiskState) (ts : List Turn) → KeptOnDisk false d.settled d d₁ ts → KeptAll d d₁ ts
kept_all d d₁ ts kept none is = kept refl (nothing_waits d none) is

pub returns-in_err-numbers-clause-ended : goal.returns-in_err-numbers-clause-ended
returns-in_err-numbers-clause-ended g c = inr (refl, refl, c.from_residual.ensures.0)

pub returns-clause-ended : goal.returns-clause-ended
returns-clause-ended g c =
    let d = g.D.Disk.state c.args.store.now.disk in
    let d₁ = g.D.Disk.state c.run_on.new.keeper.disk in
    let input = g.R.Read.remaining c.args.reader in
    let before = g.W.Write.contents c.args.writer.now in
    let after = g.W.Write.contents c.run_on.new.writer in
    let same : vec_items c.in_ok-numbers.numbers ≡ d.settled = c.in_ok-numbers.ensures.items ∙ (c.numbers.ensures ∙ ap (λ x. (g.D.Disk.state x).settled) c.disk.ensures) in
    let ended = subst (λ (x : List ℕ). Ended false x (KeptOnDisk false x d d₁) input before after c.run_on.result) same c.run_on.ensures.ended in
    inl (ended_weaker false d.settled _ _ input before after c.run_on.result (kept_all d d₁) ended)

pub returns-clause-kept : goal.returns-clause-kept
returns-clause-kept g c = λ none.
    let d = g.D.Disk.state c.args.store.now.disk in
    let d₁ = g.D.Disk.state c.run_on.new.keeper.disk in
    let same : vec_items c.in_ok-numbers.numbers ≡ d.settled = c.in_ok-numbers.ensures.items ∙ (c.numbers.ensures ∙ ap (λ x. (g.D.Disk.state x).settled) c.disk.ensures) in
    subst (λ (x : List ℕ). CountKept false x d d₁) same c.run_on.ensures.kept refl (nothing_waits d none)
