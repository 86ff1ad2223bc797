-- The lemma is the law.
use Rattle.runs.proofs.Cut.{lines_cut_lem}
use Rattle.runs.proofs.laws.lines_cut.Goals as goal

pub returns : goal.returns
returns c = lines_cut_lem
