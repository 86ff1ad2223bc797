-- Every key is below 2^64, and so below a larger power.
use Rattle.std.proofs.Common.{sym}
use Rattle.std.proofs.lemmas.Bool.{lt-ltb}
use Rattle.tree.proofs.Powers.{above, far}
use Rattle.tree.proofs.in_tree.Goals as goal

pub returns-in-None : goal.returns-in-None
returns-in-None c =
    let l = c.args.levels in sym (lt-ltb _ _ (above c.args.key l c.ranges.key.fits (far l c.in-None.ensures)))
