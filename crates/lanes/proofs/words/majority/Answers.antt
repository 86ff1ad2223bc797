-- Lane by lane; the form with fewer operations has the same bits.
use Rattle.std.proofs.Common.{slice_index, bit_and, bit_xor, rules, ◌∙◌}
use Rattle.compression.proofs.Bits.{most}
use Rattle.compression.specs.Fips180.{maj}
use Rattle.lanes.proofs.Each.{same, two}
use Rattle.lanes.proofs.words.majority.Goals as goal

pub returns : goal.returns
unfolding maj
returns c = λ j h.
    let x = same c.args.x (search rules) in
    let y = same c.args.y (search rules) in
    let z = same c.args.z (search rules) in
    (two bit_xor y (two bit_and (two bit_xor x y) (two bit_xor y z))).at j h ∙ most (slice_index c.args.x j) (slice_index c.args.y j) (slice_index c.args.z j)
