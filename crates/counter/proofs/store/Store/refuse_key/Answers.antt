-- Every key is below 2^64, and so below a larger power.
use Rattle.std.proofs.Common.{◌<◌, ◌^◌, arith}
use Rattle.std.proofs.lemmas.Bool.{le-leb}
use Rattle.tree.specs.Tree.{power}
use Rattle.tree.proofs.Powers.{above, far}
use Rattle.counter.specs.Store.{next}
use Rattle.counter.proofs.store.Store.refuse_key.Goals as goal

pub returns-in_default-2 : goal.returns-in_default-2
returns-in_default-2 c =
    let key = next c.args.self.now.cells in
    let l = c.args.levels in
    let fits : key < 2 ^ 64 = omega arith in
    let below = above key l fits (far l c.in_default.ensures) in
    rw (le-leb key (power l) (omega arith)) tt
