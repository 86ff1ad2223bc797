-- The levels are told one after another, and then the node that the path leads to, and the path.
use Rattle.std.proofs.Common.{◌≡◌, ℕ, ◌*◌, ◌/◌, ap, ◌∙◌, arith, rules}
use Rattle.std.specs.List.{range_with_len}
use Rattle.hash.specs.Value.{value_of}
use Rattle.tree.proofs.Levels.{low_leaves, low_pairs, low_halves, low_root, low_path}
use Rattle.tree.proofs.own.TreeMaker.make_low_path.Goals as goal

pub returns : goal.returns
returns g c =
    let h = g.H.RowHasher.mix in
    let n = c.args.self.now.bits in
    let s = value_of c.args.self.now.secrets.seed in
    let x = c.args.key in
    let small = c.ranges.key.fits in
    let eight : c.eight_from-eight.result ≡ range_with_len (8 * (x / 8)) 8 = c.eight_from-eight.ensures (omega (arith, small)) ∙ ap (λ (i : ℕ). range_with_len i 8) (omega arith) in
    let leaves = low_leaves value_of h n s (x / 8) c.eight_from-eight.result c.leaves-leaves.result c.leaves-leaves.ensures eight in
    let pairs = low_pairs value_of h n s (x / 8) c.leaves-leaves.result c.four_above-pairs.result leaves c.four_above-pairs.ensures in
    let halves = low_halves value_of h n s (x / 8) c.four_above-pairs.result c.two_above-halves.result pairs c.two_above-halves.ensures in
    record {
      value = low_root value_of h n s (x / 8) c.two_above-halves.result _ _ _ halves c.parent.ensures;
      path = low_path value_of h n s x _ _ _ _ _ _ c.args.path.now _ _ _ leaves pairs halves c.place_beside.ensures c.place_beside-2.ensures c.place_beside-3.ensures c.requires;
      rest = search rules;
    }
