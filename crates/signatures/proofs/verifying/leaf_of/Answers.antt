-- Eight bits further, from a beginning in which all are left.
use Rattle.std.proofs.Common.{◌≡◌, ◌∷◌, [], map, length, ap, refl, arith, rules}
use Rattle.hash.specs.Value.{value_of}
use Rattle.keys.specs.Keys.{shown}
use Rattle.signatures.proofs.Leaves.{length_shown, rejoined, chunk_next}
use Rattle.signatures.proofs.verifying.leaf_of.Goals as goal

pub loop-bits-init : goal.loop-bits-init
loop-bits-init g c =
    let start = c.into_iter-bits-iterator.result in
    let b : start.a.a.rest.now ≡ c.as_chunks.result.0.now = search rules in
    let p : start.a.b.rest.now ≡ c.as_chunks-2.result.0.now = search rules in
    let o : start.b.rest.now ≡ c.as_chunks-3.result.0.now = search rules in
    let bits = rejoined 8 c.args.bits.now start.a.a.rest.now c.as_chunks.result.0.now c.as_chunks.result.1.now b c.as_chunks.ensures.front c.as_chunks.ensures.back in
    let parts = rejoined 8 c.args.parts.now start.a.b.rest.now c.as_chunks-2.result.0.now c.as_chunks-2.result.1.now p c.as_chunks-2.ensures.front c.as_chunks-2.ensures.back in
    let others = rejoined 8 c.args.others.now start.b.rest.now c.as_chunks-3.result.0.now c.as_chunks-3.result.1.now o c.as_chunks-3.ensures.front c.as_chunks-3.ensures.back in
    let lb = ap length b in
    let lp = ap length p in
    let lo = ap length o in
    (omega (arith, c.as_chunks.ensures.front_len, c.as_chunks-2.ensures.front_len), omega (arith, c.as_chunks.ensures.front_len, c.as_chunks-3.ensures.front_len), (2 ∷ [], c.start-hasher.ensures, rw (bits, parts, others) refl))

pub loop-bits-preserved : goal.loop-bits-preserved
loop-bits-preserved g c =
    let step = c.in-Some.ensures.steps in
    let parts = c.in-Some.parts.now in
    let now = c.loop-bits.bits-iterator in
    let next = c.next.new.self in
    let eight = length_shown value_of value_of (shown g.H.RowHasher.mix) parts c.show_eight.result c.show_eight.ensures in
    let own : length parts ≡ length c.in-Some.bits.now = omega (arith, eight) in
    let other : length c.in-Some.others.now ≡ length c.in-Some.bits.now = omega arith in
    chunk_next g.H.RowHasher.holds g.H.RowHasher.mix value_of c.as_chunks.result.1.now c.as_chunks-2.result.1.now c.as_chunks-3.result.1.now _ c.loop-bits.hasher c.absorb_pairs.new.hasher c.in-Some.bits.now parts c.in-Some.others.now
    now.a.a.rest.now next.a.a.rest.now now.a.b.rest.now next.a.b.rest.now now.b.rest.now next.b.rest.now step.0.0 step.0.1 step.1 own other (λ row. c.absorb_pairs.ensures row (map value_of parts) c.show_eight.ensures) c.loop-bits.invariant
