-- One word of the block more.
use Rattle.std.proofs.Common.{refl, arith}
use Rattle.compression.specs.Fips180.{words}
use Rattle.compression.proofs.Steps.{word_more}
use Rattle.compression.proofs.schedule.load.Goals as goal

pub loop-t-init : goal.loop-t-init
unfolding words
loop-t-init c = (omega arith, refl)

pub loop-t-preserved : goal.loop-t-preserved
loop-t-preserved c = word_more c.args.block.now c.loop-t.w c.loop-t.t c.from_be_bytes.result c.loop-t.invariant.0 (omega arith) c.loop-t.invariant.1 c.from_be_bytes.ensures
