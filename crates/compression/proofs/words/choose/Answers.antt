-- The form with fewer operations has the same bits, where all three are words.
use Rattle.std.proofs.Common.{arith}
use Rattle.compression.proofs.Bits.{chosen}
use Rattle.compression.specs.Fips180.{ch}
use Rattle.compression.proofs.words.choose.Goals as goal

pub returns : goal.returns
unfolding ch
returns c = chosen c.args.x c.args.y c.args.z (omega arith) (omega arith) (omega arith)
