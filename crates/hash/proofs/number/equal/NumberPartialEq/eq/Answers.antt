-- The bytes tell.
use Rattle.hash.proofs.Numbers.{told_by_bytes}
use Rattle.hash.proofs.number.equal.NumberPartialEq.eq.Goals as goal

pub returns : goal.returns
returns c = told_by_bytes c.args.self.now c.args.other.now c.same_bytes.result c.same_bytes.ensures
