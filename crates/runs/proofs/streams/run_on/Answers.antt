-- The lines are those of the input, one by one, and the last answer is that to the end of the input.
use Rattle.std.proofs.Common.{◌≡◌, [], Ok, Err, Result, OnOk, refl, sym, subst}
use Rattle.std.proofs.lemmas.Option.{MatchOption-at_none, MatchOption-at_some}
use Rattle.std.proofs.lemmas.Result.{on_ok_weaker}
use Rattle.runs.specs.Steps.{KeptInStep}
use Rattle.runs.proofs.Appended.{err_of}
use Rattle.runs.proofs.Found.{kept_none, kept_more, count_kept}
use Rattle.runs.proofs.Progress.{known_begun, known_more, known_written, known_printed, known_done, known_ended}
use Rattle.runs.proofs.streams.run_on.Goals as goal

-- what an answer says that went well
ok_of : {T E P : Type 0} {x : T} (r : Result T E) → r ≡ Ok x → OnOk r P → P
ok_of (Ok y) e p = p
ok_of (Err y) e p = absurd cc

pub loop-init : goal.loop-init
loop-init g c =
    let new = c.new-program.ensures in
    let store = new.session.0 in
    (known_begun g.K.Keeper.IN_MEMORY c.args.store.items _ _ _ c.new-program.result refl new.session new.lines.0 new.lines.1, subst (KeptInStep g.K.Keeper.IN_MEMORY (g.K.Keeper.state c.args.keeper.now) c.args.store.items (g.K.Keeper.state c.args.keeper.now)) (sym store) (kept_none _ _ _))

pub loop-preserved : goal.loop-preserved
loop-preserved g c =
    let inv = c.loop.invariant in
    let b = g.K.Keeper.IN_MEMORY in
    let m = c.args.store.items in
    let read = MatchOption-at_some _ _ c.in-Some.line c.in-Some.is c.in_ok-line.ensures in
    let taken = known_more b m _ _ _ _ _ c.loop.program c.take.new.self _ _ inv.0 read.0 read.1 c.in_ok-text-2.ensures.done in
    let print = c.print-in-loop.ensures in
    (known_printed b m _ _ _ _ _ _ print.0 c.take.new.self taken print.1 (ok_of c.print-in-loop.result c.in_ok-print.was print.2), kept_more b _ _ _ m _ _ inv.1 c.take.ensures.in_step)

pub returns-in_err-line-clause-ended : goal.returns-in_err-line-clause-ended
returns-in_err-line-clause-ended g c =
    let inv = c.loop.invariant in
    known_ended c.from_residual.result _ _ _ _ _ _ [] c.loop.program _ _ _ _ inv.0 inv.1 (kept_none _ _ _) (err_of _ c.from_residual.result c.from_residual.ensures.0)

pub returns-in_err-text-clause-ended : goal.returns-in_err-text-clause-ended
returns-in_err-text-clause-ended g c =
    let inv = c.loop.invariant in
    known_ended c.from_residual-in_err-text.result _ _ _ _ _ _ [] c.loop.program _ _ _ _ inv.0 inv.1 c.finish.ensures.in_step (err_of _ c.from_residual-in_err-text.result c.from_residual-in_err-text.ensures.0)

pub returns-in_default-clause-ended : goal.returns-in_default-clause-ended
returns-in_default-clause-ended g c =
    let inv = c.loop.invariant in
    let b = g.K.Keeper.IN_MEMORY in
    let m = c.args.store.items in
    let end = MatchOption-at_none _ _ c.in_default.is c.in_ok-line.ensures in
    let done = known_done b m _ _ _ _ c.loop.program c.finish.new.self _ inv.0 end c.in_ok-text.ensures.done in
    let print = c.print.ensures in
    known_ended c.print.result b m _ _ _ _ print.0 c.finish.new.self _ _ _ _ (known_written b m _ _ _ _ _ _ print.0 c.finish.new.self done.0 print.1) (kept_more b _ _ _ m _ _ inv.1 c.finish.ensures.in_step) (kept_none _ _ _) (on_ok_weaker c.print.result (λ e. (end, done.1, e)) print.2)

pub returns-in_default-clause-kept : goal.returns-in_default-clause-kept
returns-in_default-clause-kept g c =
    let b = g.K.Keeper.IN_MEMORY in
    let m = c.args.store.items in
    count_kept b _ _ m _ (kept_more b _ _ _ m _ _ c.loop.invariant.1 c.finish.ensures.in_step)

pub returns-in_err-text-2-clause-ended : goal.returns-in_err-text-2-clause-ended
returns-in_err-text-2-clause-ended g c =
    let inv = c.loop.invariant in
    known_ended c.from_residual-in_err-text-2.result _ _ _ _ _ _ [] c.loop.program _ _ _ _ inv.0 inv.1 c.take.ensures.in_step (err_of _ c.from_residual-in_err-text-2.result c.from_residual-in_err-text-2.ensures.0)

pub returns-in_err-print-clause-ended : goal.returns-in_err-print-clause-ended
returns-in_err-print-clause-ended g c =
    let inv = c.loop.invariant in
    let b = g.K.Keeper.IN_MEMORY in
    let m = c.args.store.items in
    let read = MatchOption-at_some _ _ c.in-Some.line c.in-Some.is c.in_ok-line.ensures in
    let taken = known_more b m _ _ _ _ _ c.loop.program c.take.new.self _ _ inv.0 read.0 read.1 c.in_ok-text-2.ensures.done in
    let print = c.print-in-loop.ensures in
    known_ended c.from_residual-in_err-print.result b m _ _ _ _ print.0 c.take.new.self _ _ _ _ (known_written b m _ _ _ _ _ _ print.0 c.take.new.self taken print.1) (kept_more b _ _ _ m _ _ inv.1 c.take.ensures.in_step) (kept_none _ _ _) (err_of _ c.from_residual-in_err-print.result c.from_residual-in_err-print.ensures.0)

pub returns-in_err-print-clause-kept : goal.returns-in_err-print-clause-kept
returns-in_err-print-clause-kept g c =
    let b = g.K.Keeper.IN_MEMORY in
    let m = c.args.store.items in
    count_kept b _ _ m _ (kept_more b _ _ _ m _ _ c.loop.invariant.1 c.take.ensures.in_step)

pub returns-clause-ended : goal.returns-clause-ended
returns-clause-ended g c =
    let inv = c.loop.invariant in
    known_ended (Err c.into.result) _ _ _ _ _ _ [] c.loop.program _ _ _ _ inv.0 inv.1 (kept_none _ _ _) tt
