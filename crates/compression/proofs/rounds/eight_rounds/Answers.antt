-- One round after the other.
use Rattle.std.proofs.Common.{◌+◌, refl, arith}
use Rattle.compression.proofs.Steps.{round_more}
use Rattle.compression.proofs.rounds.eight_rounds.Goals as goal

pub returns : goal.returns
returns c = λ s e.
    let W = c.args.w.now in
    let t = c.args.t in
    let e1 = round_more W s _ _ t (t + 1) refl c.one_round-v.ensures e in
    let e2 = round_more W s _ _ (t + 1) (t + 2) (omega arith) c.one_round-v-2.ensures e1 in
    let e3 = round_more W s _ _ (t + 2) (t + 3) (omega arith) c.one_round-v-3.ensures e2 in
    let e4 = round_more W s _ _ (t + 3) (t + 4) (omega arith) c.one_round-v-4.ensures e3 in
    let e5 = round_more W s _ _ (t + 4) (t + 5) (omega arith) c.one_round-v-5.ensures e4 in
    let e6 = round_more W s _ _ (t + 5) (t + 6) (omega arith) c.one_round-v-6.ensures e5 in
    let e7 = round_more W s _ _ (t + 6) (t + 7) (omega arith) c.one_round-v-7.ensures e6 in
    round_more W s _ _ (t + 7) (t + 8) (omega arith) c.one_round.ensures e7
