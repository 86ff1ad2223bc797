-- The lemma is the law.
use Rattle.runs.proofs.Once.{answered_once_lem}
use Rattle.runs.proofs.laws.answered_once.Goals as goal

pub returns : goal.returns
returns c = answered_once_lem
