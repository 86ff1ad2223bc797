-- The lemma is the law.
use Rattle.runs.proofs.Asked.{asked_once_lem}
use Rattle.runs.proofs.laws.asked_once.Goals as goal

pub returns : goal.returns
returns c = asked_once_lem
