-- The numbers of the bits before this one are written.
use Rattle.std.proofs.Common.{◌≡◌, map, take, drop}
use Rattle.hash.specs.Value.{value_of}
use Rattle.signatures.specs.Signatures.{parts_from, others_from}
use Rattle.signatures.proofs.signing.reveal_odd.Given as goal

abbrev pub invariant-loop-j : goal.invariant-loop-j
invariant-loop-j g l =
    (map value_of (take l.j l.parts) ≡ parts_from g.H.RowHasher.mix (value_of l.key.secrets.now.seed) l.key.index l.first (take l.j l.bits))
    × (map value_of (take l.j l.others) ≡ others_from g.H.RowHasher.mix (value_of l.key.secrets.now.seed) l.key.index l.first (take l.j l.bits))
    × (drop l.j l.parts ≡ drop l.j l.initial.parts)
    × (drop l.j l.others ≡ drop l.j l.initial.others)
