-- What was taken in, and what is left to take in, make up the leaf's row.
use Rattle.std.proofs.Common.{map}
use Rattle.hash.specs.Value.{value_of}
use Rattle.signatures.specs.Signatures.{leaf_row_of}
use Rattle.signatures.proofs.Leaves.{InChunks}
use Rattle.signatures.proofs.verifying.leaf_of.Given as goal

abbrev pub invariant-loop-bits : goal.invariant-loop-bits
invariant-loop-bits g l =
    let row = leaf_row_of g.H.RowHasher.mix l.bits (map value_of l.parts) (map value_of l.others) in
    InChunks g.H.RowHasher.holds g.H.RowHasher.mix value_of l.odd_bits l.odd_parts l.odd_others row l.hasher l.bits-iterator.a.a.rest.now l.bits-iterator.a.b.rest.now l.bits-iterator.b.rest.now
