-- The decimal is all before the first space.
use Rattle.std.proofs.Common.{◌^◌, ◌∙◌}
use Rattle.texts.proofs.Cuts.{before_cut, not_both}
use Rattle.texts.proofs.command.decimal_before.Goals as goal

pub returns-in_err-read_decimal : goal.returns-in_err-read_decimal
returns-in_err-read_decimal c =
    rw c.from_residual.ensures
    (λ v rest b.
    let cut = before_cut c.args.text.now c.args.word.now c.word_end.result v rest c.requires c.word_end.ensures b in
    not_both (2 ^ 64) _ _ v c.in_err-read_decimal.ensures c.split_at.ensures.front cut.0)

pub returns-in_err-after : goal.returns-in_err-after
returns-in_err-after c =
    rw c.from_residual-in_err-after.ensures
    (λ v rest b.
    let cut = before_cut c.args.text.now c.args.word.now c.word_end.result v rest c.requires c.word_end.ensures b in
    c.in_err-after.ensures rest (c.split_at.ensures.back ∙ cut.1))
