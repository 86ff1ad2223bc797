-- As proved in Digests.
use Rattle.sha256.proofs.Digests.{gives_digests_lem}
use Rattle.sha256.proofs.laws.gives_digests.Goals as goal

pub returns : goal.returns
returns c = gives_digests_lem
