-- What was taken in, and what is left to take in, make up the whole row.
use Rattle.std.proofs.Common.{map}
use Rattle.hash.specs.Value.{value_of}
use Rattle.signatures.proofs.Leaves.{Absorbing, told}
use Rattle.signatures.proofs.verifying.absorb_pairs.Given as goal

abbrev pub invariant-loop-bit : goal.invariant-loop-bit
invariant-loop-bit g l =
    Absorbing g.H.RowHasher.holds value_of value_of l.initial.hasher (told l.bits (map value_of l.own) (map value_of l.others)) l.hasher l.bit-iterator.a.a.rest.now l.bit-iterator.a.b.rest.now l.bit-iterator.b.rest.now
