-- The lemma itself; the search does not see it.
use Rattle.counter.proofs.Kept.{first_key_lem}
use Rattle.counter.proofs.promises.first_key.Goals as goal

pub returns : goal.returns
returns c = first_key_lem
