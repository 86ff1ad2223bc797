-- The walk that is left from here comes where the whole walk comes.
use Rattle.std.proofs.Common.{◌≡◌, ◌/◌, ◌^◌, map, drop}
use Rattle.hash.specs.Value.{value_of}
use Rattle.tree.specs.Tree.{up}
use Rattle.tree.proofs.climb.Given as goal

abbrev pub invariant-loop-level : goal.invariant-loop-level
invariant-loop-level g l =
    up g.H.RowHasher.mix (map value_of (drop l.level l.path)) (l.key / 2 ^ l.level) (value_of l.value) ≡ up g.H.RowHasher.mix (map value_of l.path) l.key (value_of l.leaf)
