-- The form with fewer operations has the same bits.
use Rattle.compression.proofs.Bits.{most}
use Rattle.compression.specs.Fips180.{maj}
use Rattle.compression.proofs.words.majority.Goals as goal

pub returns : goal.returns
unfolding maj
returns c = most c.args.x c.args.y c.args.z
