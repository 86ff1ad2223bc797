-- The numbers of the eights before this one are written.
use Rattle.std.proofs.Common.{◌≡◌, ◌*◌, map, take, drop}
use Rattle.hash.specs.Value.{value_of}
use Rattle.signatures.specs.Signatures.{parts_from, others_from}
use Rattle.signatures.proofs.signing.reveal.Given as goal

abbrev pub invariant-loop-i : goal.invariant-loop-i
invariant-loop-i g l =
    (map value_of (take (8 * l.i) l.parts) ≡ parts_from g.H.RowHasher.mix (value_of l.key.secrets.now.seed) l.key.index 0 (take (8 * l.i) l.bits))
    × (map value_of (take (8 * l.i) l.others) ≡ others_from g.H.RowHasher.mix (value_of l.key.secrets.now.seed) l.key.index 0 (take (8 * l.i) l.bits))
    × (drop (8 * l.i) l.parts ≡ drop (8 * l.i) l.initial.parts)
    × (drop (8 * l.i) l.others ≡ drop (8 * l.i) l.initial.others)
