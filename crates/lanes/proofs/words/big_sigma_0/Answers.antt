-- Lane by lane, of three rotated words.
use Rattle.std.proofs.Common.{bit_xor, rules}
use Rattle.lanes.proofs.Each.{by, two}
use Rattle.lanes.proofs.words.big_sigma_0.Goals as goal

pub returns : goal.returns
returns c =
    let a = by c.rotate_right.result _ (search rules) c.rotate_right.ensures in
    let b = by c.rotate_right-2.result _ (search rules) c.rotate_right-2.ensures in
    let d = by c.rotate_right-3.result _ (search rules) c.rotate_right-3.ensures in
    (two bit_xor (two bit_xor a b) d).at
