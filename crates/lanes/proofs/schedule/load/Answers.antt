-- One word of each block more.
use Rattle.std.proofs.Common.{[], slice_index_or, length-set, refl, arith}
use Rattle.compression.specs.Fips180.{words}
use Rattle.lanes.proofs.Steps.{word_more_lane}
use Rattle.lanes.proofs.schedule.load.Goals as goal

pub loop-t-init : goal.loop-t-init
unfolding words
loop-t-init c = (omega arith, λ j lt. refl)

pub loop-t-preserved : goal.loop-t-preserved
loop-t-preserved c = (
  simp length-set c.loop-t.invariant.0,
  λ j lt. word_more_lane (slice_index_or c.args.blocks.now j []) c.loop-t.w c.across.result c.loop-t.t j c.loop-t.invariant.0 (omega arith) (c.across.ensures j lt) (c.loop-t.invariant.1 j lt),
)
