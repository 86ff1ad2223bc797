-- What the writer took is gone from `left`.
use Rattle.std.proofs.Common.{ℕ, List, ◌++◌, take, sym, ap, ◌∙◌, take-append-drop}
use Rattle.std.proofs.lemmas.List.{take_rest}
use Rattle.runs.proofs.Appended.{front_more, gone_taken}
use Rattle.runs.proofs.streams.write.Goals as goal

pub loop-preserved : goal.loop-preserved
loop-preserved g c =
    let left = c.loop.left.now in
    let count = c.in_ok-count.count in
    front_more _ _ _ c.args.bytes.now left _ c.loop.invariant (take count left, sym (take-append-drop count left) ∙ ap (λ (l : List ℕ). take count left ++ l) (sym (take_rest left count)), gone_taken _ _ _ _ left c.write.result count c.write.ensures.bytes c.in_ok-count.ensures)
