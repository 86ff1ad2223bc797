-- As proved in Counting.
use Rattle.counter.proofs.Counting.{kept}
use Rattle.signer.proofs.promises.stays_sound.Goals as goal

pub returns : goal.returns
returns c m n s = let k = kept n m s in (k.0, k.1, k.3)
