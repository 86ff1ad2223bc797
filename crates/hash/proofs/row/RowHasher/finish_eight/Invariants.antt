-- The hashes before this one are those of the rows.
use Rattle.std.proofs.Common.{◌≡◌, ℕ, List, map, length, take}
use Rattle.std.specs.List.{AllZip}
use Rattle.hash.specs.Value.{value_of}
use Rattle.hash.proofs.row.RowHasher.finish_eight.Given as goal

abbrev pub invariant-loop-i : goal.invariant-loop-i
invariant-loop-i g l =
    (length l.hashes ≡ 8)
    × ((rows : List (List ℕ)) → AllZip g.Self.RowHasher.holds l.hashers rows → map value_of (take l.i l.hashes) ≡ map g.Self.RowHasher.mix (take l.i rows))
