-- Behind 64 digits the word ends or there is none.
use Rattle.std.proofs.Common.{rules, arith}
use Rattle.reading.proofs.Cuts.{number_cut, number_uncut}
use Rattle.reading.proofs.spaced.NumberFromWord.word_end.Goals as goal
use Rattle.reading.proofs.spaced.NumberFromWord.word_end.Goals.{else-text-gt64-via-then-text-gt64+else-text-ne32, else-text-gt64-via-else-text-gt64}

pub returns-then-text-ne32 : goal.returns-then-text-ne32
returns-then-text-ne32 c = number_uncut c.args.text.now (search rules) (search rules)

pub returns : goal.returns
returns c =
    number_cut c.args.text.now c.min.result (search rules) (elim c.else-text-gt64.branch [
      | else-text-gt64-via-then-text-gt64+else-text-ne32 w ↦ λ h. search rules
      | else-text-gt64-via-else-text-gt64 w ↦ λ h. absurd (omega (arith, h, w.if-text-gt64))
    ])
