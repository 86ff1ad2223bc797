-- The loop takes in all that is shown behind the eights, bit by bit.
use Rattle.std.proofs.Common.{◌≡◌, ℕ, ap, subst, ◌∙◌, arith}
use Rattle.hash.specs.Value.{value_of}
use Rattle.keys.specs.Keys.{leaf, leaf_row}
use Rattle.keys.proofs.Shown.{leaf_more}
use Rattle.keys.proofs.one_time.OneTimeKey.leaf.Goals as goal

pub loop-bit-init : goal.loop-bit-init
loop-bit-init g c =
    subst (λ (n : ℕ). g.H.RowHasher.holds c.leaf_front-hasher.result (leaf_row g.H.RowHasher.mix n (value_of c.args.self.now.secrets.now.seed) c.args.self.now.index)) (omega arith)
    c.leaf_front-hasher.ensures

pub loop-bit-preserved : goal.loop-bit-preserved
loop-bit-preserved g c =
    leaf_more g.H.RowHasher.mix (value_of c.args.self.now.secrets.now.seed) c.args.self.now.index c.loop-bit.bit _ _ g.H.RowHasher.holds c.loop-bit.hasher c.absorb.new.self c.absorb-in-loop-bit.new.self c.shown.ensures c.shown-in-loop-bit.ensures c.loop-bit.invariant c.absorb.ensures c.absorb-in-loop-bit.ensures

pub returns : goal.returns
unfolding leaf
returns g c =
    let e : c.loop-bit.bit ≡ c.args.bits = omega arith in
    let row = leaf_row g.H.RowHasher.mix c.loop-bit.bit (value_of c.args.self.now.secrets.now.seed) c.args.self.now.index in
    c.finish.ensures row c.loop-bit.invariant ∙ ap (λ n. g.H.RowHasher.mix (leaf_row g.H.RowHasher.mix n (value_of c.args.self.now.secrets.now.seed) c.args.self.now.index)) e
