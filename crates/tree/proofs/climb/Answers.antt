-- One step of the walk, and its end.
use Rattle.std.proofs.Common.{ℕ, ◌/◌, ◌^◌, map, sym, ap, ◌∙◌, div-one}
use Rattle.hash.specs.Value.{value_of}
use Rattle.hash.specs.declared.number.Number.{Number}
use Rattle.tree.specs.Tree.{fork, up}
use Rattle.tree.proofs.Walks.{up_more, up_all}
use Rattle.tree.proofs.climb.Goals as goal

pub loop-level-init : goal.loop-level-init
loop-level-init g c = ap (λ (x : ℕ). up g.H.RowHasher.mix (map value_of c.args.path.now) x (value_of c.args.leaf.now)) (div-one c.args.key)

pub loop-level-preserved : goal.loop-level-preserved
loop-level-preserved g c =
    let h = g.H.RowHasher.mix in
    let level = c.loop-level.level in
    let v = value_of c.loop-level.value in
    let item = c.index-path-level.result in
    let e = c.join-value.ensures ∙ ap (λ (b : Number). h (fork (c.args.key / 2 ^ level) v (value_of b))) c.index-path-level.is in
    up_more h value_of c.args.key v (value_of c.join-value.result) c.args.path.now level item c.loop-level-test.true e ∙ c.loop-level.invariant

pub returns : goal.returns
returns g c =
    sym (up_all g.H.RowHasher.mix value_of (c.args.key / 2 ^ c.loop-level.level) (value_of c.loop-level.value) c.args.path.now c.loop-level.level c.loop-level-test.false) ∙ c.loop-level.invariant
