-- The lemma is the law.
use Rattle.reading.proofs.Rejoined.{lines_joined_lem}
use Rattle.reading.proofs.laws.lines_joined.Goals as goal

pub returns : goal.returns
returns c = lines_joined_lem
