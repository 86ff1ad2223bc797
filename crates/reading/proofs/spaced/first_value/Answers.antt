-- The word is all that is cut off.
use Rattle.std.proofs.Common.{◌≡◌, List, ℕ, ◌++◌, drop, sym, ap, ◌∙◌, subst}
use Rattle.reading.proofs.Cuts.{cut_off}
use Rattle.reading.proofs.spaced.first_value.Goals as goal

pub returns-in_err-from_word : goal.returns-in_err-from_word
returns-in_err-from_word g c =
    rw c.from_residual-in_err-from_word.ensures
    (λ w v rest f.
    let text = c.in_ok-unspaced.unspaced.now in
    let here : text ≡ w ++ rest = ap (drop 1) (sym c.in_ok-unspaced.ensures ∙ f.text) in
    let cut = cut_off g.T.FromWord.spells text w rest v c.word_end.result c.word_end.ensures f.whole f.stops here f.spelled in
    let same = c.split_at.ensures.front ∙ cut in
    c.in_err-from_word.ensures v (subst (λ (x : List ℕ). g.T.FromWord.spells x v) (sym same) f.spelled))
