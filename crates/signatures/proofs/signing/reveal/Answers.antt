-- Eight bits more, in both rows, and the odd rest.
use Rattle.std.proofs.Common.{◌*◌, ◌<◌, ◌≤◌, ◌≡◌, ◌/◌, not, length, refl, arith, rules}
use Rattle.hash.specs.Value.{value_of}
use Rattle.keys.specs.Keys.{secret, shown}
use Rattle.signatures.specs.Signatures.{each_from}
use Rattle.signatures.proofs.Written.{eight_more, behind_eight, odd_more, behind_odd}
use Rattle.signatures.proofs.signing.reveal.Goals as goal

pub loop-i-init : goal.loop-i-init
unfolding each_from
loop-i-init g c = (refl, refl, refl, refl)

pub loop-i-preserved : goal.loop-i-preserved
loop-i-preserved g c =
    let h = g.H.RowHasher.mix in
    let s = value_of c.args.key.now.secrets.now.seed in
    let k = c.args.key.now.index in
    let bs = c.args.bits.now in
    let i = c.loop-i.i in
    let inv = c.loop-i.invariant in
    let front = c.as_chunks.ensures.front in
    let own = c.copy_from_slice.ensures.after in
    let other = c.copy_from_slice-in-loop-i.ensures.after in
    let now = c.reveal_eight.result in
    let room : length bs ≤ length c.loop-i.parts = omega arith in
    let room-2 : length bs ≤ length c.loop-i.others = omega arith in
    let before : i < length bs / 8 = omega (arith, c.as_chunks.ensures.front_len) in
    let eight : length now.0 ≡ 8 = search rules in
    let eight-2 : length now.1 ≡ 8 = search rules in
    let parts = eight_more value_of (secret h s k) bs _ c.as_chunks.result.0.now c.loop-i.parts now.0 _ i _ front before room own eight c.reveal_eight.ensures.parts inv.0 in
    let others = eight_more value_of (λ j b. shown h (secret h s k j (not b))) bs _ c.as_chunks.result.0.now c.loop-i.others now.1 _ i _ front before room-2 other eight-2 c.reveal_eight.ensures.others inv.1 in
    (parts, others, behind_eight c.loop-i.parts c.args.parts.now now.0 _ i (omega arith) own eight inv.2, behind_eight c.loop-i.others c.args.others.now now.1 _ i (omega arith) other eight-2 inv.3)

pub returns-clause-parts : goal.returns-clause-parts
returns-clause-parts g c =
    let h = g.H.RowHasher.mix in
    let s = value_of c.args.key.now.secrets.now.seed in
    let k = c.args.key.now.index in
    let count = length c.as_chunks.result.0.now in
    let end : c.loop-i.i ≡ count = omega arith in
    odd_more value_of (secret h s k) c.args.bits.now c.as_chunks.result.1.now c.loop-i.parts c.reveal_odd.new.parts _ (8 * count) count refl c.as_chunks.ensures.front_len c.as_chunks.ensures.back (omega arith) c.reveal_odd.ensures.parts (rw end at c.loop-i.invariant.0)

pub returns-clause-rest : goal.returns-clause-rest
returns-clause-rest g c =
    let count = length c.as_chunks.result.0.now in
    let end : c.loop-i.i ≡ count = omega arith in
    let behind = c.reveal_odd.ensures.rest in
    (behind_odd c.args.bits.now c.as_chunks.result.1.now c.loop-i.parts c.args.parts.now c.reveal_odd.new.parts (8 * count) count refl c.as_chunks.ensures.front_len c.as_chunks.ensures.back_len (omega arith) behind.0 (rw end at c.loop-i.invariant.2), behind_odd c.args.bits.now c.as_chunks.result.1.now c.loop-i.others c.args.others.now c.reveal_odd.new.others (8 * count) count refl c.as_chunks.ensures.front_len c.as_chunks.ensures.back_len (omega arith) behind.1 (rw end at c.loop-i.invariant.3))

pub returns-clause-others : goal.returns-clause-others
returns-clause-others g c =
    let h = g.H.RowHasher.mix in
    let s = value_of c.args.key.now.secrets.now.seed in
    let k = c.args.key.now.index in
    let count = length c.as_chunks.result.0.now in
    let end : c.loop-i.i ≡ count = omega arith in
    odd_more value_of (λ j b. shown h (secret h s k j (not b))) c.args.bits.now c.as_chunks.result.1.now c.loop-i.others c.reveal_odd.new.others _ (8 * count) count refl c.as_chunks.ensures.front_len c.as_chunks.ensures.back (omega arith) c.reveal_odd.ensures.others (rw end at c.loop-i.invariant.1)
