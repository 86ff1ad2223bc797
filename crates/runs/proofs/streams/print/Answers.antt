-- Where memory fails nothing was written.
use Rattle.runs.proofs.Appended.{front_none, err_of}
use Rattle.runs.proofs.streams.print.Goals as goal

pub returns-in_err-push : goal.returns-in_err-push
returns-in_err-push g c = (_, front_none _ _, err_of _ c.from_residual.result c.from_residual.ensures.0)
