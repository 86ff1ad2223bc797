-- No bit yet, and eight bits further.
use Rattle.std.proofs.Common.{ℕ, subst, arith}
use Rattle.hash.specs.Value.{value_of}
use Rattle.keys.specs.Keys.{leaf_row, shown_all}
use Rattle.keys.proofs.one_time.OneTimeKey.leaf_front.Goals as goal

pub loop-i-init : goal.loop-i-init
unfolding shown_all
loop-i-init g c = c.start-hasher.ensures

pub loop-i-preserved : goal.loop-i-preserved
loop-i-preserved g c =
    subst (λ (n : ℕ). g.H.RowHasher.holds c.absorb_eight_bits.new.hasher (leaf_row g.H.RowHasher.mix n (value_of c.args.self.now.secrets.now.seed) c.args.self.now.index)) (omega arith)
    (c.absorb_eight_bits.ensures c.loop-i.invariant)

pub returns : goal.returns
returns g c =
    subst (λ (n : ℕ). g.H.RowHasher.holds c.loop-i.hasher (leaf_row g.H.RowHasher.mix n (value_of c.args.self.now.secrets.now.seed) c.args.self.now.index)) (omega arith)
    c.loop-i.invariant
