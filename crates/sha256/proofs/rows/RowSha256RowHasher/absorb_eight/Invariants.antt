-- The hashers before this one have a number more, and those from it on are as they were.
use Rattle.std.proofs.Common.{◌≡◌, ℕ, List, ◌++◌, map, length, take, drop}
use Rattle.std.specs.List.{AllZip}
use Rattle.hash.specs.Rows.{longer}
use Rattle.hash.specs.Value.{value_of}
use Rattle.sha256.specs.Eight.{RowHeld}
use Rattle.sha256.proofs.rows.RowSha256RowHasher.absorb_eight.Given as goal

abbrev pub invariant-loop-i : goal.invariant-loop-i
invariant-loop-i l =
    (length l.hashers ≡ 8)
    × ((rows : List (List ℕ)) → AllZip RowHeld l.fn.hashers rows → AllZip RowHeld l.hashers (longer (take l.i rows) (take l.i (map value_of l.numbers)) ++ drop l.i rows))
