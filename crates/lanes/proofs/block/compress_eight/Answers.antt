-- In each lane, the rounds and the addition.
use Rattle.std.proofs.Common.{[], slice_index_or, ◌∙◌, rules}
use Rattle.compression.specs.Fips180.{compressed}
use Rattle.lanes.specs.Lane.{lane}
use Rattle.lanes.proofs.Blocks.{compressed_lane, eight_zipped}
use Rattle.lanes.proofs.block.compress_eight.Goals as goal

pub returns : goal.returns
returns c =
    let hs = c.args.states.now in
    let bs = c.args.blocks.now in
    c.into_states.ensures
    ∙ eight_zipped compressed (λ j. lane j c.add.result) hs bs (search rules) (search rules) (λ j lt.
    compressed_lane (slice_index_or hs j []) (slice_index_or bs j []) (lane j c.from_states-start.result) (lane j c.rounds_of_blocks.result) (lane j c.add.result)
    (c.from_states-start.ensures j lt) (c.rounds_of_blocks.ensures j lt) (c.add.ensures j lt))
