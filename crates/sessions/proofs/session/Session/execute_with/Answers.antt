-- What is printed is the signature by the key that is answered; what is promised follows from what is answered.
use Rattle.std.proofs.Common.{rules, ℕ, List, Some, sym, ap, ◌∙◌, subst}
use Rattle.hash.specs.Value.{value_of}
use Rattle.texts.specs.declared.command.Command.{Command}
use Rattle.sessions.specs.Sessions.{look_answer, Answered}
use Rattle.sessions.proofs.Fewer.{executed, answered, sign_answered, sign_left}
use Rattle.sessions.proofs.session.Session.execute_with.Goals as goal

pub returns-in_err-root_text-in-Root-clause-done : goal.returns-in_err-root_text-in-Root-clause-done
returns-in_err-root_text-in-Root-clause-done g c = answered g.K.Keeper.IN_MEMORY g.H.RowHasher.mix c.args.self.now _ c.args.command c.args.lines.now _ (search rules) (search rules)

pub returns-in_err-done-in-Sign-clause-done : goal.returns-in_err-done-in-Sign-clause-done
returns-in_err-done-in-Sign-clause-done g c = answered g.K.Keeper.IN_MEMORY g.H.RowHasher.mix c.args.self.now _ c.args.command c.args.lines.now _ (search rules) (search rules)

pub returns-in_err-look_at-in-Look-clause-done : goal.returns-in_err-look_at-in-Look-clause-done
returns-in_err-look_at-in-Look-clause-done g c = answered g.K.Keeper.IN_MEMORY g.H.RowHasher.mix c.args.self.now _ c.args.command c.args.lines.now _ (search rules) (search rules)

pub returns-in_err-slot_text-in-Slot-clause-done : goal.returns-in_err-slot_text-in-Slot-clause-done
returns-in_err-slot_text-in-Slot-clause-done g c = answered g.K.Keeper.IN_MEMORY g.H.RowHasher.mix c.args.self.now _ c.args.command c.args.lines.now _ (search rules) (search rules)

pub returns-in_err-state_text-in-State-clause-done : goal.returns-in_err-state_text-in-State-clause-done
returns-in_err-state_text-in-State-clause-done g c = answered g.K.Keeper.IN_MEMORY g.H.RowHasher.mix c.args.self.now _ c.args.command c.args.lines.now _ (search rules) (search rules)

pub returns-in-Store-clause-done : goal.returns-in-Store-clause-done
returns-in-Store-clause-done g c = executed g.K.Keeper.IN_MEMORY g.H.RowHasher.mix c.args.self.now _ c.args.command c.args.lines.now _ (search rules) (search rules)

pub returns-in-Levels-clause-done : goal.returns-in-Levels-clause-done
returns-in-Levels-clause-done g c = executed g.K.Keeper.IN_MEMORY g.H.RowHasher.mix c.args.self.now _ c.args.command c.args.lines.now _ (search rules) (search rules)

pub returns-in_ok-root_text-in-Root-clause-done : goal.returns-in_ok-root_text-in-Root-clause-done
returns-in_ok-root_text-in-Root-clause-done g c = executed g.K.Keeper.IN_MEMORY g.H.RowHasher.mix c.args.self.now _ c.args.command c.args.lines.now _ (search rules) (search rules)

pub returns-in-Power-clause-done : goal.returns-in-Power-clause-done
returns-in-Power-clause-done g c = executed g.K.Keeper.IN_MEMORY g.H.RowHasher.mix c.args.self.now _ c.args.command c.args.lines.now _ (search rules) (search rules)

pub returns-in_ok-slot_text-in-Slot-clause-done : goal.returns-in_ok-slot_text-in-Slot-clause-done
returns-in_ok-slot_text-in-Slot-clause-done g c = executed g.K.Keeper.IN_MEMORY g.H.RowHasher.mix c.args.self.now _ c.args.command c.args.lines.now _ (search rules) (search rules)

pub returns-in_ok-state_text-in-State-clause-done : goal.returns-in_ok-state_text-in-State-clause-done
returns-in_ok-state_text-in-State-clause-done g c = executed g.K.Keeper.IN_MEMORY g.H.RowHasher.mix c.args.self.now _ c.args.command c.args.lines.now _ (search rules) (search rules)

pub returns-in_ok-look_at-in-Look-clause-done : goal.returns-in_ok-look_at-in-Look-clause-done
returns-in_ok-look_at-in-Look-clause-done g c =
    let h = g.H.RowHasher.mix in
    let self = c.args.self.now in
    let found = c.in_ok-look_at-in-Look.ensures in
    let whole = found.2 ∙ ap (λ (t : List ℕ). look_answer h self (value_of c.in-Look.root) t found.0) c.deref-in-Look.ensures.value in
    let answered = subst (λ (k : Command). Answered h self k c.args.lines.now (Some c.in_ok-look_at-in-Look.field-0)) (sym c.in-Look.is) (found.0, found.1, whole) in
    executed g.K.Keeper.IN_MEMORY h self _ c.args.command c.args.lines.now _ (search rules) answered

pub returns-in_ok-sign_text-in-Sign-clause-done : goal.returns-in_ok-sign_text-in-Sign-clause-done
returns-in_ok-sign_text-in-Sign-clause-done g c =
    let signs = c.in_ok-done-in-Sign.ensures in
    sign_answered g.K.Keeper.IN_MEMORY g.H.RowHasher.mix c.args.self.now _ c.args.command _ c.args.lines.now _ _ _ c.in-Sign.is c.deref.ensures.value c.in_ok-sign_text-in-Sign.ensures signs.room signs.done signs.same signs.power

pub returns-in_err-sign_text-in-Sign-clause-done : goal.returns-in_err-sign_text-in-Sign-clause-done
returns-in_err-sign_text-in-Sign-clause-done g c =
    let signs = c.in_ok-done-in-Sign.ensures in
    sign_left g.K.Keeper.IN_MEMORY g.H.RowHasher.mix c.args.self.now _ c.args.command _ c.args.lines.now _ _ _ c.in-Sign.is (search rules) signs.done signs.same signs.power
