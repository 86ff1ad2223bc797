-- The number that a row begins with, by what the row is for. Assumes nothing: these are definitions.
use Rattle.std.specs.Prelude.{ℕ}
use Rattle.hash.specs.declared.purpose.Purpose.{Purpose}
use Rattle.hash.specs.declared.purpose.Purpose.TheVariants.{Secret, Shown, Leaf, Node, Text}

abbrev pub tag : Purpose → ℕ
tag Secret = 0
tag Shown = 1
tag Leaf = 2
tag Node = 3
tag Text = 4
