-- The schedule of each lane, worked out in it or once for all.
use Rattle.std.proofs.Common.{[], slice_index_or, sym, ap, ◌∙◌, rules}
use Rattle.compression.specs.Fips180.{schedule, rounds}
use Rattle.lanes.specs.Lane.{lane}
use Rattle.lanes.proofs.block.rounds_of_blocks.Goals as goal

pub returns-then-alike : goal.returns-then-alike
returns-then-alike c = λ j lt.
    let once = c.schedule_of.ensures ∙ ap (schedule 48) (sym (c.alike.ensures.0 (search rules) j lt)) in
    c.all_rounds_alike.ensures j lt ∙ ap (λ W. rounds 64 W (lane j c.args.start)) once

pub returns-else-alike : goal.returns-else-alike
returns-else-alike c = λ j lt.
    let b = slice_index_or c.args.blocks.now j [] in
    c.all_rounds.ensures j lt ∙ ap (λ W. rounds 64 W (lane j c.args.start)) (c.expand.ensures j lt b (c.load.ensures j lt))
