-- What was read so far is cut into turns, each was answered, and what was printed are their answers; and the disk is in step, if it was.
use Rattle.std.proofs.Common.{[]}
use Rattle.runs.specs.Steps.{KeptInStep}
use Rattle.runs.proofs.Progress.{Known}
use Rattle.runs.proofs.streams.run_on.Given as goal

abbrev pub invariant-loop : goal.invariant-loop
invariant-loop g l =
    Known g.K.Keeper.IN_MEMORY l.fn.store.items (g.R.Read.remaining l.initial.reader) (g.R.Read.remaining l.reader) (g.W.Write.contents l.initial.writer) (g.W.Write.contents l.writer) [] l.program
    × KeptInStep g.K.Keeper.IN_MEMORY (g.K.Keeper.state l.initial.keeper) l.fn.store.items (g.K.Keeper.state l.keeper) l.program.session.store.items
