-- What is promised for every hash, with byte strings.
use Rattle.std.proofs.Common.{Ok, Err, Option, Result, String}
use Rattle.std.specs.Prelude.{MatchResult}
use Rattle.std.specs.declared.alloc.Global.{Global}
use Rattle.std.specs.declared.alloc.AllocError.{AllocError}
use Rattle.sha256.specs.Rows.{row_hash}
use Rattle.texts.specs.declared.command.Command.{Command}
use Rattle.texts.specs.declared.signature.SignatureLines.{SignatureLines}
use Rattle.sessions.specs.Sessions.{Executed, Failed, Answered, Promised, PromisedStrings}
use Rattle.sessions.specs.declared.session.Session.{Session}
use Rattle.sessions.proofs.Promised.{promised_strings}
use Rattle.sessions.proofs.session.Session.execute.Goals as goal

with_strings : (s r s₁ : Session) (c : Command) (t : SignatureLines) (x : Result (Option (String Global)) AllocError) → MatchResult x (λ o. Executed r c s₁ × Answered row_hash r c t o × Promised row_hash r c t o) (λ _. Failed s r c s₁) →
    MatchResult x (λ o. Executed r c s₁ × Answered row_hash r c t o × PromisedStrings r c t o) (λ _. Failed s r c s₁)
with_strings s r s₁ c t (Ok o) (e, a, p) = (e, a, promised_strings r c t o p)
with_strings s r s₁ c t (Err y) f = f

pub returns-clause-done : goal.returns-clause-done
returns-clause-done g c =
    let d = c.execute_with.ensures.done in
    (d.0, d.1, with_strings c.args.self.now d.0 _ c.args.command c.args.lines.now c.execute_with.result d.2)
