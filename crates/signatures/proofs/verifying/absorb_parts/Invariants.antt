-- What was taken in, and what is left to take in, make up the whole row.
use Rattle.std.proofs.Common.{map}
use Rattle.hash.specs.Value.{value_of}
use Rattle.keys.specs.Keys.{shown}
use Rattle.signatures.proofs.Leaves.{Absorbing, told}
use Rattle.signatures.proofs.verifying.absorb_parts.Given as goal

abbrev pub invariant-loop-bit : goal.invariant-loop-bit
invariant-loop-bit g l =
    let h = g.H.RowHasher.mix in
    Absorbing g.H.RowHasher.holds (λ p. shown h (value_of p)) value_of l.initial.hasher (told l.bits (map (λ p. shown h (value_of p)) l.parts) (map value_of l.others)) l.hasher l.bit-iterator.a.a.rest.now l.bit-iterator.a.b.rest.now l.bit-iterator.b.rest.now
