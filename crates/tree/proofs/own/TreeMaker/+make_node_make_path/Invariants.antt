-- The level falls: a node needs the path to it, and a path the node beside it, one level lower.
use Rattle.std.proofs.Common.{◌+◌, ◌*◌}
use Rattle.tree.proofs.own.TreeMaker.+make_node_make_path.Given as goal

abbrev pub decreases-make_node : goal.decreases-make_node
decreases-make_node g l = 2 * l.level + 1

abbrev pub decreases-make_path : goal.decreases-make_path
decreases-make_path g l = 2 * l.level
