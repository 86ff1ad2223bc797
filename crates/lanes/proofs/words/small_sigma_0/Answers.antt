-- Lane by lane, of two rotated words and a shifted one.
use Rattle.std.proofs.Common.{◌/◌, ◌^◌, bit_xor, rules}
use Rattle.lanes.proofs.Each.{same, by, all, two}
use Rattle.lanes.proofs.words.small_sigma_0.Goals as goal

pub returns : goal.returns
returns c =
    let a = by c.rotate_right.result _ (search rules) c.rotate_right.ensures in
    let b = by c.rotate_right-2.result _ (search rules) c.rotate_right-2.ensures in
    let d = two (λ x n. x / 2 ^ n) (same c.args.x (search rules)) (all 3) in
    (two bit_xor (two bit_xor a b) d).at
