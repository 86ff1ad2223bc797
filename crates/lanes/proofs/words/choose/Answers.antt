-- Lane by lane, as the standard has it.
use Rattle.std.proofs.Common.{bit_and, bit_xor, rules}
use Rattle.std.specs.Int.{w32, bit_not}
use Rattle.compression.specs.Fips180.{ch}
use Rattle.lanes.proofs.Each.{same, one, two}
use Rattle.lanes.proofs.words.choose.Goals as goal

pub returns : goal.returns
unfolding ch
returns c =
    let x = same c.args.x (search rules) in
    let y = same c.args.y (search rules) in
    let z = same c.args.z (search rules) in
    (two bit_xor (two bit_and x y) (two bit_and (one (bit_not w32) x) z)).at
