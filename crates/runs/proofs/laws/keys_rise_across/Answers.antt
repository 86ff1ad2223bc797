-- The lemma is the law.
use Rattle.runs.proofs.Across.{keys_rise_across_lem}
use Rattle.runs.proofs.laws.keys_rise_across.Goals as goal

pub returns : goal.returns
returns c = keys_rise_across_lem
