-- One bit further, and the end.
use Rattle.std.proofs.Common.{◌≡◌, ◌++◌, ◌∙◌, length, map, refl, ap, subst, arith}
use Rattle.hash.specs.Value.{value_of}
use Rattle.signatures.proofs.Leaves.{told, told_shown, absorbing_next, absorbed}
use Rattle.signatures.proofs.verifying.absorb_pairs.Goals as goal

pub loop-bit-preserved : goal.loop-bit-preserved
loop-bit-preserved g c =
    let step = c.in-Some.ensures.steps in
    let now = c.loop-bit.bit-iterator in
    let next = c.next.new.self in
    absorbing_next g.H.RowHasher.holds value_of value_of c.args.hasher.now c.loop-bit.hasher c.absorb_pair.new.hasher _ c.in-Some.bit.now c.in-Some.own.now c.in-Some.other.now _ now.a.a.rest.now next.a.a.rest.now now.a.b.rest.now next.a.b.rest.now now.b.rest.now next.b.rest.now step.0.0 step.0.1 step.1 refl c.absorb_pair.ensures c.loop-bit.invariant

pub returns : goal.returns
returns g c =
    let left = c.loop-bit.bit-iterator in
    let none = c.in-None.ensures.steps in
    let end : length left.a.a.rest.now ≡ 0 = omega (arith, none) in
    λ row parts e held.
    subst (λ xs. g.H.RowHasher.holds c.loop-bit.hasher (row ++ xs))
    (ap (λ vs. told c.args.bits.now vs (map value_of c.args.others.now)) e ∙ told_shown g.H.RowHasher.mix c.args.bits.now parts (map value_of c.args.others.now))
    (absorbed g.H.RowHasher.holds value_of value_of c.args.hasher.now c.loop-bit.hasher _ left.a.a.rest.now left.a.b.rest.now left.b.rest.now end c.loop-bit.invariant row held)
