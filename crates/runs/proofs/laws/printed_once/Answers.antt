-- The lemma is the law.
use Rattle.runs.proofs.Once.{printed_once_lem}
use Rattle.runs.proofs.laws.printed_once.Goals as goal

pub returns : goal.returns
returns c = printed_once_lem
