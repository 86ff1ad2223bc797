-- Lane by lane; the word and the constant may be added first.
use Rattle.std.proofs.Common.{rules}
use Rattle.compression.specs.Fips180.{plus, round}
use Rattle.lanes.proofs.Each.{same, by, all, two, so}
use Rattle.lanes.proofs.Steps.{sum_first, moved}
use Rattle.lanes.proofs.rounds.one_round.Goals as goal

pub returns : goal.returns
unfolding round
returns c = λ j lt.
    let s = c.args.s in
    let h = same s.h (search rules) in
    let d = same s.d (search rules) in
    let w = same c.args.w (search rules) in
    let x = by c.big_sigma_1.result _ (search rules) c.big_sigma_1.ensures in
    let y = by c.choose.result _ (search rules) c.choose.ensures in
    let z = by c.big_sigma_0.result _ (search rules) c.big_sigma_0.ensures in
    let m = by c.majority.result _ (search rules) c.majority.ensures in
    let t1 = so (two plus (two plus (two plus h x) y) (two plus w (all c.args.k))) (λ j. sum_first _ _ _) in
    let t2 = two plus z m in
    moved ((two plus t1 t2).at j lt) ((two plus d t1).at j lt)
