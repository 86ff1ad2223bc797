-- As proved in Know.
use Rattle.signer.proofs.Know.{must_know_located_lem}
use Rattle.signer.proofs.promises.must_know_located.Goals as goal

pub returns : goal.returns
returns c = must_know_located_lem
