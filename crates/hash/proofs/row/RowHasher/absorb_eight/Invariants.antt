-- The hashers before this one have a number more, and those from it on are as they were.
use Rattle.std.proofs.Common.{◌≡◌, ℕ, List, ◌++◌, map, length, take, drop}
use Rattle.std.specs.List.{AllZip}
use Rattle.hash.specs.Rows.{longer}
use Rattle.hash.specs.Value.{value_of}
use Rattle.hash.proofs.row.RowHasher.absorb_eight.Given as goal

abbrev pub invariant-loop-i : goal.invariant-loop-i
invariant-loop-i g l =
    (length l.hashers ≡ 8)
    × ((rows : List (List ℕ)) → AllZip g.Self.RowHasher.holds l.fn.hashers rows →
    AllZip g.Self.RowHasher.holds l.hashers (longer (take l.i rows) (take l.i (map value_of l.numbers)) ++ drop l.i rows))
