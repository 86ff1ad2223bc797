-- One write more of those that are left; one with no such place changes nothing.
use Rattle.std.proofs.Common.{rules, ℕ, ◌+◌, List, length, drop, sym, ap, ◌∙◌}
use Rattle.std.proofs.lemmas.List.{at_drop_more, length-set, set_past}
use Rattle.counter.specs.Cells.{left_by}
use Rattle.counter.specs.declared.write.Write.{Write}
use Rattle.durable_tests.proofs.disk.written.Goals as goal
use Rattle.durable_tests.proofs.disk.written.Goals.{then-write-lt4, else-write-lt4}

pub loop-write-preserved : goal.loop-write-preserved
loop-write-preserved c =
    let ws = c.args.writes.now in
    let i = c.loop-write.write-index in
    let m = c.loop-write.numbers in
    let left : List ℕ → List ℕ = λ x. left_by (drop (i + 1) ws) x in
    let step = at_drop_more (λ (l : List Write). left_by l m) ws i (record { place = 0; value = 0 }) (search rules) in
    elim c.if-write-lt4.branch [
      | then-write-lt4 w ↦ (ap length w.numbers-is ∙ (length-set m _ _ ∙ c.loop-write.invariant.0), ap left w.numbers-is ∙ (sym step ∙ c.loop-write.invariant.1))
      | else-write-lt4 w ↦ (ap length w.numbers-is ∙ c.loop-write.invariant.0, ap left (w.numbers-is ∙ sym (set_past m _ _ (search rules))) ∙ (sym step ∙ c.loop-write.invariant.1))
    ]
