-- One bit more, in both rows.
use Rattle.std.proofs.Common.{not, refl, arith}
use Rattle.hash.specs.Value.{value_of}
use Rattle.hash.specs.declared.number.Number.{Number}
use Rattle.hash.proofs.Fronts.{behind_more}
use Rattle.keys.specs.Keys.{secret, shown}
use Rattle.signatures.specs.Signatures.{each_from}
use Rattle.signatures.proofs.Each.{each_more}
use Rattle.signatures.proofs.signing.reveal_odd.Goals as goal

pub loop-j-init : goal.loop-j-init
unfolding each_from
loop-j-init g c = (refl, refl, refl, refl)

pub loop-j-preserved : goal.loop-j-preserved
loop-j-preserved g c =
    let h = g.H.RowHasher.mix in
    let s = value_of c.args.key.now.secrets.now.seed in
    let i = c.args.key.now.index in
    let bs = c.args.bits.now in
    let j = c.loop-j.j in
    let inv = c.loop-j.invariant in
    let parts = each_more value_of (secret h s i) c.args.first bs c.loop-j.parts j c.secret.result (omega arith) (omega arith) c.secret.ensures inv.0 in
    let others = each_more value_of (λ k b. shown h (secret h s i k (not b))) c.args.first bs c.loop-j.others j c.shown.result (omega arith) (omega arith) c.shown.ensures inv.1 in
    (parts, others, behind_more Number c.loop-j.parts c.args.parts.now j c.secret.result inv.2, behind_more Number c.loop-j.others c.args.others.now j c.shown.result inv.3)
