-- The root ends where the first word does.
use Rattle.std.proofs.Common.{ℕ, List, ◌++◌, drop, codes, sym, ap, refl, ◌∙◌}
use Rattle.std.proofs.lemmas.List.{take-append-drop}
use Rattle.std.proofs.lemmas.Option.{MatchOption-at_none, MatchOption-at_some}
use Rattle.hash.specs.Hex.{hex}
use Rattle.reading.proofs.Cuts.{cut_word, hex_whole}
use Rattle.texts.proofs.command.read_look.Goals as goal
use Rattle.texts.proofs.command.read_look.Goals.{in_default-via-in-Some+in_default, in_default-via-in_default}

pub returns-in_default-clause-read : goal.returns-in_default-clause-read
returns-in_default-clause-read c n t e =
    let cut = cut_word c.args.text.now (hex n.bytes) (codes " " ++ t) c.word_end.result c.word_end.ensures (hex_whole n.bytes) (λ h. refl) e in
    elim c.in_default.branch [
      | in_default-via-in-Some+in_default w ↦ MatchOption-at_none _ _ w.in_default.is-1 c.after.ensures t (c.split_at.ensures.back ∙ cut.1)
      | in_default-via-in_default w ↦ MatchOption-at_none _ _ w.in_default.is-0 c.read_hex.ensures n (c.split_at.ensures.front ∙ cut.0)
    ]

-- memory is asked for the text of a look that is one
pub returns-in_err-from_slice-clause-asked : goal.returns-in_err-from_slice-clause-asked
returns-in_err-from_slice-clause-asked c e =
    let root = c.in-Some-Some.root in
    let text = c.in-Some-Some.text in
    let front = MatchOption-at_some _ _ root c.in-Some-Some.is-0 c.read_hex.ensures in
    let back = MatchOption-at_some _ _ text c.in-Some-Some.is-1 c.after.ensures in (
      root,
      text.now,
      sym (take-append-drop c.word_end.result c.args.text.now)
          ∙ (ap (λ (t : List ℕ). t ++ drop c.word_end.result c.args.text.now) (sym c.split_at.ensures.front ∙ front) ∙ ap (λ (t : List ℕ). hex root.bytes ++ t) (sym c.split_at.ensures.back ∙ back)),
    )
