-- Lane by lane.
use Rattle.std.proofs.Common.{rules}
use Rattle.compression.specs.Fips180.{plus, word_after}
use Rattle.lanes.proofs.Each.{same, by, two}
use Rattle.lanes.proofs.schedule.next_word.Goals as goal

pub returns : goal.returns
unfolding word_after
returns c =
    let a = by c.small_sigma_1.result _ (search rules) c.small_sigma_1.ensures in
    let b = by c.small_sigma_0.result _ (search rules) c.small_sigma_0.ensures in
    (two plus (two plus (two plus a (same c.args.w7 (search rules))) b) (same c.args.w16 (search rules))).at
