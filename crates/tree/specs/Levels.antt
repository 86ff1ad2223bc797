-- The levels of the tree as lists, each from the one below it. For every hash h. Assumes nothing: these are definitions.
use Rattle.std.specs.Prelude.{ℕ, List, [], ◌∷◌}
use Rattle.hash.specs.Mix.{Mix}
use Rattle.tree.specs.Tree.{node_row}

-- the nodes above those of a list: two by two their hashes
abbrev pub above : Mix → List ℕ → List ℕ
above h [] = []
above h (v ∷ []) = []
above h (v ∷ w ∷ vs) = h (node_row v w) ∷ above h vs
