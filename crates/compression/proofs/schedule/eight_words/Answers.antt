-- One word of the schedule more; the eighth is the last.
use Rattle.std.proofs.Common.{◌≡◌, ◌+◌, ℕ, take, length-set, slice_set, subst, arith}
use Rattle.compression.specs.Fips180.{schedule}
use Rattle.compression.proofs.Steps.{scheduled_more}
use Rattle.compression.proofs.schedule.eight_words.Goals as goal

pub loop-j-init : goal.loop-j-init
loop-j-init c =
    let at : c.args.t ≡ c.args.t + 0 = omega arith in
    (omega arith, λ b e. subst (λ (n : ℕ). take (n + 16) c.args.w.now ≡ schedule n b) at e)

pub loop-j-preserved : goal.loop-j-preserved
loop-j-preserved c =
    let t = c.args.t in
    let j = c.loop-j.j in
    let at : t + j + 1 ≡ t + (j + 1) = omega arith in
    let w = slice_set c.loop-j.w (t + j + 16) c.next_word.result in (
      simp length-set c.loop-j.invariant.0,
      λ b e.
          subst (λ (n : ℕ). take (n + 16) w ≡ schedule n b) at
          (scheduled_more b c.loop-j.w (t + j) c.next_word.result c.loop-j.invariant.0 (omega arith) c.next_word.ensures (c.loop-j.invariant.1 b e)),
    )

pub returns : goal.returns
returns c = λ b e.
    let done : c.args.t + c.loop-j.j ≡ c.args.t + 8 = omega arith in
    subst (λ (n : ℕ). take (n + 16) c.loop-j.w ≡ schedule n b) done (c.loop-j.invariant.1 b e)
