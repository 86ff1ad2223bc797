-- What was admitted passes every refusal; a count fits its cell; and the answer is by what was written.
use Rattle.std.proofs.Common.{◌≡◌, true, false, ap, ◌∙◌, arith}
use Rattle.keys.proofs.Refused.{levels_taken}
use Rattle.tree.proofs.Powers.{few_keys}
use Rattle.counter.specs.Store.{next}
use Rattle.counter.proofs.Counts.{counts}
use Rattle.counter.proofs.Powered.{admitted, empty_asked, key_asked, reserve_taken}
use Rattle.counter.proofs.reserving.reserve_in.Goals as goal

pub returns-then-not-in_tree-clause-asked : goal.returns-then-not-in_tree-clause-asked
returns-then-not-in_tree-clause-asked g c =
    let m = g.C.Cells.held c.args.cells.now in
    let l = c.args.levels in
    let a = admitted l _ m _ c.in-Ok.ensures c.numbers.ensures in
    let key : c.from-key.result ≡ next m = c.from-key.ensures ∙ (c.next_key.ensures ∙ ap next a.1) in
    empty_asked _ _ _ l _ m _ a.0 key c.if-not-in_tree.ensures

pub reserve-requires-clause-small : goal.reserve-requires-clause-small
reserve-requires-clause-small g c =
    let m = g.C.Cells.held c.args.cells.now in
    let l = c.args.levels in
    let a = admitted l _ m _ c.in-Ok.ensures c.numbers.ensures in
    let passed = reserve_taken l m a.0 in
    let few = few_keys l (levels_taken l passed.0) in
    rw a.1 (omega (arith, few, passed.2))

pub returns-in-Ok-reserve-clause-asked : goal.returns-in-Ok-reserve-clause-asked
returns-in-Ok-reserve-clause-asked g c =
    let m = g.C.Cells.held c.args.cells.now in
    let l = c.args.levels in
    let a = admitted l _ m _ c.in-Ok.ensures c.numbers.ensures in
    let key : c.from-key.result ≡ next m = c.from-key.ensures ∙ (c.next_key.ensures ∙ ap next a.1) in
    key_asked _ _ _ l _ m _ _ _ true a.0 key c.if-not-in_tree.ensures c.in-Ok-reserve.ensures.written

pub returns-in-Err-reserve-clause-asked : goal.returns-in-Err-reserve-clause-asked
returns-in-Err-reserve-clause-asked g c =
    let m = g.C.Cells.held c.args.cells.now in
    let l = c.args.levels in
    let a = admitted l _ m _ c.in-Ok.ensures c.numbers.ensures in
    let key : c.from-key.result ≡ next m = c.from-key.ensures ∙ (c.next_key.ensures ∙ ap next a.1) in
    key_asked _ _ _ l _ m _ _ _ false a.0 key c.if-not-in_tree.ensures c.in-Err-reserve.ensures.written

pub returns-in-Ok-reserve-clause-counts : goal.returns-in-Ok-reserve-clause-counts
returns-in-Ok-reserve-clause-counts g c =
    let m = g.C.Cells.held c.args.cells.now in
    counts _ _ _ c.args.levels m _ _ _ _ (λ e. (reserve_taken c.args.levels m e).1) (returns-in-Ok-reserve-clause-asked g c)

pub returns-in-Err-reserve-clause-counts : goal.returns-in-Err-reserve-clause-counts
returns-in-Err-reserve-clause-counts g c =
    let m = g.C.Cells.held c.args.cells.now in
    counts _ _ _ c.args.levels m _ _ _ _ (λ e. (reserve_taken c.args.levels m e).1) (returns-in-Err-reserve-clause-asked g c)
