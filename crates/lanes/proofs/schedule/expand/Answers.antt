-- Six times eight words are the forty-eight, and the array holds no more.
use Rattle.std.proofs.Common.{◌≡◌, ◌+◌, ◌*◌, ℕ, take, subst, sym, ◌∙◌, arith}
use Rattle.std.proofs.lemmas.List.{take_all}
use Rattle.compression.specs.Fips180.{schedule}
use Rattle.lanes.specs.Lane.{lane_of}
use Rattle.lanes.proofs.Steps.{long_lane}
use Rattle.lanes.proofs.schedule.expand.Goals as goal

pub loop-i-init : goal.loop-i-init
unfolding schedule
loop-i-init c = (omega arith, λ j lt b e. e)

pub loop-i-preserved : goal.loop-i-preserved
loop-i-preserved c =
    let at : 8 * c.loop-i.i + 8 ≡ 8 * (c.loop-i.i + 1) = omega arith in
    (c.eight_words.array_long, λ j lt b e. subst (λ (n : ℕ). take (n + 16) (lane_of j c.eight_words.new.w) ≡ schedule n b) at (c.eight_words.ensures j lt b (c.loop-i.invariant.1 j lt b e)))

pub returns : goal.returns
returns c = λ j lt b e.
    let done : 8 * c.loop-i.i ≡ 48 = omega arith in
    sym (take_all 64 (lane_of j c.loop-i.w) (omega (arith, long_lane c.loop-i.w j c.loop-i.invariant.0)))
    ∙ subst (λ (n : ℕ). take (n + 16) (lane_of j c.loop-i.w) ≡ schedule n b) done (c.loop-i.invariant.1 j lt b e)
