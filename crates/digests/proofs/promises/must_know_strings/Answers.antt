-- As proved in Strings.
use Rattle.digests.proofs.Strings.{must_know_strings_lem}
use Rattle.digests.proofs.promises.must_know_strings.Goals as goal

pub returns : goal.returns
returns c = must_know_strings_lem
