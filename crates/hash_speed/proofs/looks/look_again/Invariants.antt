-- As many of the looks so far as accepted, and no more than there were.
use Rattle.std.proofs.Common.{◌≡◌, ◌≤◌}
use Rattle.hash.specs.Value.{value_of}
use Rattle.signatures.specs.Signatures.{accepted}
use Rattle.signatures.specs.Views.{viewed}
use Rattle.hash_speed.specs.Work.{taken_of}
use Rattle.hash_speed.proofs.looks.look_again.Given as goal

abbrev pub invariant-loop-look : goal.invariant-loop-look
invariant-loop-look g l =
    (l.taken ≡ taken_of (λ bs. accepted g.H.RowHasher.mix (value_of l.root) 10 bs (viewed l.signature)) l.one l.other l.look) × (l.taken ≤ l.look)
