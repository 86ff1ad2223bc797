-- One level more.
use Rattle.std.proofs.Common.{◌≡◌, ℕ, ◌+◌, ◌-◌, ◌*◌, ◌^◌, ◌<◌, refl, ap, ◌∙◌, arith, rules}
use Rattle.hash.specs.Value.{value_of}
use Rattle.hash.specs.declared.number.Number.{Number}
use Rattle.hash.proofs.Fronts.{behind_more}
use Rattle.keys.specs.Keys.{leaf}
use Rattle.tree.specs.Tree.{node}
use Rattle.tree.proofs.Paths.{first_leaf, beside_small, node_up, path_more, node_none, path_none}
use Rattle.tree.proofs.own.TreeMaker.+make_node_make_path.Goals as goal

pub make_node-returns : goal.make_node-returns
make_node-returns g t c =
    let h = g.H.RowHasher.mix in
    let s = value_of c.args.self.now.secrets.seed in
    record {
      value = c.make_path.ensures.value ∙ ap (λ (x : ℕ). node h c.args.self.now.bits s c.args.level x) (first_leaf c.args.place c.args.level c.requires.small);
      rest = c.make_path.ensures.rest;
    }

pub make_path-returns-then-level-eq0 : goal.make_path-returns-then-level-eq0
make_path-returns-then-level-eq0 g t c =
    let h = g.H.RowHasher.mix in
    let n = c.args.self.now.bits in
    let s = c.args.self.now.secrets.seed in
    let none = c.if-level-eq0.true in
    let own = ap (λ (y : Number). leaf h n (value_of y) c.key.result.index) c.key.ensures.seed ∙ ap (λ (i : ℕ). leaf h n (value_of s) i) c.key.ensures.index in
    record {
      value = node_none h n (value_of s) c.args.level c.args.key _ none (c.leaf.ensures ∙ own);
      path = path_none value_of h n (value_of s) c.args.level c.args.key _ none;
      rest = refl;
    }

pub make_path-make_node-other-requires : goal.make_path-make_node-other-requires
make_path-make_node-other-requires g t c κs within =
    let m = c.args.level - 1 in
    let s : c.place_beside.result * 2 ^ m < 2 ^ 64 = rw c.place_beside.ensures (beside_small m c.args.key (omega arith) c.ranges.key.fits) in search rules

pub make_path-returns : goal.make_path-returns
make_path-returns g t c =
    let h = g.H.RowHasher.mix in
    let n = c.args.self.now.bits in
    let s = value_of c.args.self.now.secrets.seed in
    let x = c.args.key in
    let m = c.args.level - 1 in
    let up : m + 1 ≡ c.args.level = omega arith in
    let path = c.make_path-own.new.path in
    let other = c.make_node-other.result in
    let beside_it = c.make_node-other.ensures.value ∙ ap (λ (y : ℕ). node h n s m y) c.place_beside.ensures in
    let rest = c.make_path-own.ensures.rest ∙ c.make_node-other.ensures.rest in
    record {
      value = rw up at (node_up h n s m x _ _ _ c.join.ensures c.make_path-own.ensures.value beside_it);
      path = rw up at (path_more value_of h n s m x path other (omega arith) beside_it c.make_path-own.ensures.path);
      rest = rw up at (behind_more Number path c.args.path.now m other rest);
    }
