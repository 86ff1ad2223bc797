-- One round after the other, in each lane, with one schedule.
use Rattle.std.proofs.Common.{◌+◌, refl, arith}
use Rattle.lanes.proofs.Steps.{round_more_alike}
use Rattle.lanes.proofs.rounds.eight_rounds_alike.Goals as goal

pub returns : goal.returns
returns c = λ j lt v e.
    let w = c.args.w.now in
    let t = c.args.t in
    let e1 = round_more_alike w v _ _ t (t + 1) j lt refl (c.one_round-s.ensures j lt) e in
    let e2 = round_more_alike w v _ _ (t + 1) (t + 2) j lt (omega arith) (c.one_round-s-2.ensures j lt) e1 in
    let e3 = round_more_alike w v _ _ (t + 2) (t + 3) j lt (omega arith) (c.one_round-s-3.ensures j lt) e2 in
    let e4 = round_more_alike w v _ _ (t + 3) (t + 4) j lt (omega arith) (c.one_round-s-4.ensures j lt) e3 in
    let e5 = round_more_alike w v _ _ (t + 4) (t + 5) j lt (omega arith) (c.one_round-s-5.ensures j lt) e4 in
    let e6 = round_more_alike w v _ _ (t + 5) (t + 6) j lt (omega arith) (c.one_round-s-6.ensures j lt) e5 in
    let e7 = round_more_alike w v _ _ (t + 6) (t + 7) j lt (omega arith) (c.one_round-s-7.ensures j lt) e6 in
    round_more_alike w v _ _ (t + 7) (t + 8) j lt (omega arith) (c.one_round.ensures j lt) e7
