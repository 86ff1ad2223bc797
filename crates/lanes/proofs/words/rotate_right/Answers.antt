-- Each lane is shifted by the distance to the right, and by what is left of 32 to the left.
use Rattle.std.proofs.Common.{◌-◌, ◌*◌, ◌/◌, ◌%◌, ◌^◌, bit_or, rules}
use Rattle.lanes.proofs.Each.{same, all, two}
use Rattle.lanes.proofs.words.rotate_right.Goals as goal

pub returns : goal.returns
returns c =
    let x = same c.args.x (search rules) in
    (two bit_or (two (λ a b. a / 2 ^ b) x (all c.args.n)) (two (λ a b. a * 2 ^ b % 2 ^ 32) x (all (32 - c.args.n)))).at
