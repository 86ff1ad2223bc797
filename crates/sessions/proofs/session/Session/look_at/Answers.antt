-- What is looked at is what was read, and the lines are refused as they were read.
use Rattle.std.proofs.Common.{Ok, Err, refl, ap, ◌∙◌}
use Rattle.std.proofs.lemmas.Result.{IfOk-weaker}
use Rattle.hash.specs.Value.{value_of}
use Rattle.signatures.specs.Signatures.{Signature, accepted}
use Rattle.sessions.specs.Replies.{look_spelled}
use Rattle.sessions.specs.Sessions.{bits_asked}
use Rattle.sessions.proofs.session.Session.look_at.Goals as goal

pub returns-in_ok-accepted-in-Ok : goal.returns-in_ok-accepted-in-Ok
returns-in_ok-accepted-in-Ok g c =
    let h = g.H.RowHasher.mix in
    let self = c.args.self.now in
    let seen = ap (λ (s : Signature). accepted h (value_of c.args.root.now) self.tree.signer.levels (bits_asked h self c.args.text.now) s) c.view.ensures in
    IfOk-weaker c.from_str.result _ _
    (λ s e. (Ok c.in-Ok.signature, c.in-Ok.ensures.read, e ∙ (c.look_text.ensures ∙ ap look_spelled (c.in_ok-accepted-in-Ok.ensures.answer ∙ seen)))) c.from_str.ensures.ok

pub returns-in-Err-Refused : goal.returns-in-Err-Refused
returns-in-Err-Refused g c =
    let bad = c.in-Err-Refused.ensures.refused c.in-Err-Refused.refusal (rw c.in-Err-Refused.field-0-is refl) in
    IfOk-weaker c.format.result _ _ (λ s e. (Err c.in-Err-Refused.refusal, bad, e)) c.format.ensures.ok
