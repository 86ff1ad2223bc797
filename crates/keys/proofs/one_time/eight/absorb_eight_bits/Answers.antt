-- The loop takes in all that is shown, bit by bit.
use Rattle.std.proofs.Common.{◌≡◌, ◌+◌, ℕ, true, false, subst, arith}
use Rattle.hash.specs.Value.{value_of}
use Rattle.keys.specs.Keys.{leaf_row}
use Rattle.keys.proofs.Eights.{shown_at}
use Rattle.keys.proofs.Shown.{leaf_more}
use Rattle.keys.proofs.one_time.eight.absorb_eight_bits.Goals as goal

pub loop-k-init : goal.loop-k-init
loop-k-init g c = λ held.
    subst (λ (n : ℕ). g.H.RowHasher.holds c.args.hasher.now (leaf_row g.H.RowHasher.mix n (value_of c.args.key.now.secrets.now.seed) c.args.key.now.index)) (omega arith) held

pub loop-k-preserved : goal.loop-k-preserved
loop-k-preserved g c = λ held.
    let h = g.H.RowHasher.mix in
    let s = value_of c.args.key.now.secrets.now.seed in
    let i = c.args.key.now.index in
    let first = c.args.first in
    let k = c.loop-k.k in
    let places = c.eight_from.ensures (omega arith) in
    let unset = shown_at h s i first false c.show_eight-unset.result _ _ k c.index-unset-k.result c.loop-k-test.true places c.eight_pairs-pairs.ensures.unset c.show_eight-unset.ensures in
    let set = shown_at h s i first true c.show_eight-set.result _ _ k c.index-set-k.result c.loop-k-test.true places c.eight_pairs-pairs.ensures.set c.show_eight-set.ensures in
    subst (λ (n : ℕ). g.H.RowHasher.holds c.absorb-in-loop-k.new.self (leaf_row h n s i)) (omega arith)
    (leaf_more h s i (first + k) _ _ g.H.RowHasher.holds c.loop-k.hasher c.absorb.new.self c.absorb-in-loop-k.new.self unset set (c.loop-k.invariant held) c.absorb.ensures c.absorb-in-loop-k.ensures)

pub returns : goal.returns
returns g c = λ held.
    let e : c.loop-k.k ≡ 8 = omega arith in
    subst (λ (n : ℕ). g.H.RowHasher.holds c.loop-k.hasher (leaf_row g.H.RowHasher.mix (c.args.first + n) (value_of c.args.key.now.secrets.now.seed) c.args.key.now.index)) e (c.loop-k.invariant held)
