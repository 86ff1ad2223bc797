-- What begins as a command and cannot be read on is none; nothing follows the word `root`.
use Rattle.std.proofs.Common.{◌≡◌, ℕ, List, ◌++◌, sym, ap, ◌∙◌, inl, inr, codes, Some, None, Option, MatchOption, IsSomeAnd, vec_items, subst}
use Rattle.texts.specs.Commands.{Spelled}
use Rattle.texts.specs.declared.command.Command.{Command}
use Rattle.texts.proofs.Cuts.{stored, stored_words}
use Rattle.texts.proofs.Commanded.{no_levels, no_store}
use Rattle.texts.proofs.Stores.{store_back, store_again}
use Rattle.texts.proofs.command.read_command.Goals as goal

-- what was read, put into a command
mapped : {A : Type 0} {P : A → Command → Type 0} {N : Type 0} {Is : A → Type 0} (cs : List ℕ) (o : Option A) (r : Option Command) →
    MatchOption o (r ≡ None) (λ x. IsSomeAnd r (P x)) → MatchOption o N Is → (N → (c : Command) → Spelled cs c → ⊥) → ((x : A) (c : Command) → P x c → Is x → Spelled cs c) →
    MatchOption r ((c : Command) → Spelled cs c → ⊥) (Spelled cs)
mapped cs None r m read none some = subst (λ (x : Option Command). MatchOption x ((c : Command) → Spelled cs c → ⊥) (Spelled cs)) (sym m) (none read)
mapped cs (Some x) (Some c) m read none some = some x c m read
mapped cs (Some x) None m read none some = absurd m

pub returns-in-Some-after-2-clause-read : goal.returns-in-Some-after-2-clause-read
returns-in-Some-after-2-clause-read c =
    mapped c.args.line.now c.read_levels.result c.map.result c.map.ensures.cases c.read_levels.ensures (no_levels c.args.line.now c.in-Some-after-2.text.now c.in-Some-after-2.ensures)
    (λ v d e s. subst (λ (k : Command). Spelled c.args.line.now k) (sym e) (c.in-Some-after-2.text.now, c.in-Some-after-2.ensures, s))

pub returns-in-Some-after-3-clause-read : goal.returns-in-Some-after-3-clause-read
returns-in-Some-after-3-clause-read c =
    let text = c.in-Some-after-3.text.now in
    let e = c.in-Some-after-3.ensures in
    mapped c.args.line.now c.in_ok-read_words.field-0 c.map-in-Some-after-3.result c.map-in-Some-after-3.ensures.cases c.in_ok-read_words.ensures.read
    (λ none. no_store c.args.line.now text e (λ vs s. none vs (stored_words text vs s)))
    (λ v d f s. subst (λ (k : Command). Spelled c.args.line.now k) (sym f) (text, e, stored text (vec_items v) s))

pub returns-in-Some-after-2-clause-again : goal.returns-in-Some-after-2-clause-again
returns-in-Some-after-2-clause-again c = store_again c.args.line.now c.map.result (returns-in-Some-after-2-clause-read c)

pub returns-in-Some-after-3-clause-back : goal.returns-in-Some-after-3-clause-back
returns-in-Some-after-3-clause-back c vs b p =
    store_back c.args.line.now c.in-Some-after-3.text.now vs c.in_ok-read_words.field-0 c.map-in-Some-after-3.result c.map-in-Some-after-3.ensures.cases c.in_ok-read_words.ensures.read c.in-Some-after-3.ensures b p

pub returns-in-Some-after-3-clause-again : goal.returns-in-Some-after-3-clause-again
returns-in-Some-after-3-clause-again c = store_again c.args.line.now c.map-in-Some-after-3.result (returns-in-Some-after-3-clause-read c)

pub returns-in-Some-after-clause-asked : goal.returns-in-Some-after-clause-asked
returns-in-Some-after-clause-asked c e =
    let look = c.read_look.ensures.asked e in inr (inl (look.0, look.1, c.in-Some-after.ensures ∙ ap (λ (t : List ℕ). codes "look " ++ t) look.2))
