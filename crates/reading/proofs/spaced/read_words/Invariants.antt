-- The values so far and those of what is left are the text's; and if the whole is words, what is left is. All is left, or a word was read.
use Rattle.std.proofs.Common.{◌≡◌, ◌⊎◌, List, ◌++◌, length, vec_items}
use Rattle.reading.specs.Spaced.{Begins, SpacedWords}
use Rattle.reading.proofs.spaced.read_words.Given as goal

abbrev pub invariant-loop-left : goal.invariant-loop-left
invariant-loop-left g l =
    ((vs : List g.row.T.Denot) → SpacedWords g.T.FromWord.spells l.left vs → SpacedWords g.T.FromWord.spells l.text (vec_items l.values ++ vs))
    × ((vs : List g.row.T.Denot) → SpacedWords g.T.FromWord.spells l.text vs → (us : List g.row.T.Denot) × SpacedWords g.T.FromWord.spells l.left us)
    × ((l.left ≡ l.text) ⊎ Begins g.T.FromWord.spells l.text)

abbrev pub decreases-loop-left : goal.decreases-loop-left
decreases-loop-left g l = length l.left
