-- One word of each schedule more; the eighth is the last.
use Rattle.std.proofs.Common.{◌≡◌, ◌+◌, ℕ, take, length-set, slice_set, subst, arith}
use Rattle.compression.specs.Fips180.{schedule}
use Rattle.lanes.specs.Lane.{lane_of}
use Rattle.lanes.proofs.Steps.{scheduled_more_lane}
use Rattle.lanes.proofs.schedule.eight_words.Goals as goal

pub loop-k-init : goal.loop-k-init
loop-k-init c =
    let at : c.args.t ≡ c.args.t + 0 = omega arith in
    (omega arith, λ j lt b e. subst (λ (n : ℕ). take (n + 16) (lane_of j c.args.w.now) ≡ schedule n b) at e)

pub loop-k-preserved : goal.loop-k-preserved
loop-k-preserved c =
    let t = c.args.t in
    let k = c.loop-k.k in
    let at : t + k + 1 ≡ t + (k + 1) = omega arith in
    let w = slice_set c.loop-k.w (t + k + 16) c.next_word.result in (
      simp length-set c.loop-k.invariant.0,
      λ j lt b e.
          subst (λ (n : ℕ). take (n + 16) (lane_of j w) ≡ schedule n b) at
          (scheduled_more_lane b c.loop-k.w c.next_word.result (t + k) j c.loop-k.invariant.0 (omega arith) (c.next_word.ensures j lt) (c.loop-k.invariant.1 j lt b e)),
    )

pub returns : goal.returns
returns c = λ j lt b e.
    let done : c.args.t + c.loop-k.k ≡ c.args.t + 8 = omega arith in
    subst (λ (n : ℕ). take (n + 16) (lane_of j c.loop-k.w) ≡ schedule n b) done (c.loop-k.invariant.1 j lt b e)
