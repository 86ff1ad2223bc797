-- The line that is handed over is the one that was lent.
use Rattle.runs.proofs.program.Program.step.Goals as goal

pub returns-clause-done : goal.returns-clause-done
returns-clause-done g c = rw (← c.in_ok-from_slice.ensures.items) c.take.ensures.done
