-- A shift is a power.
use Rattle.std.proofs.Common.{ℕ, Some, ap}
use Rattle.std.proofs.lemmas.Bool.{lt-ltb}
use Rattle.tree.proofs.Powers.{shifted}
use Rattle.tree.proofs.key_count.Goals as goal

pub returns-then-levels-lt64 : goal.returns-then-levels-lt64
returns-then-levels-lt64 c =
    let h = c.if-levels-lt64.true in
    rw (lt-ltb c.args.levels 64 h) (ap (λ (n : ℕ). Some n) (shifted c.args.levels h))
