-- The lemma itself; the search does not see it.
use Rattle.counter.proofs.Kept.{store_kept_lem}
use Rattle.counter.proofs.promises.store_kept.Goals as goal

pub returns : goal.returns
returns c = store_kept_lem
