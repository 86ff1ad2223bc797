-- The words behind the line's own are its numbers.
use Rattle.std.proofs.Common.{vec_items}
use Rattle.std.proofs.lemmas.Result.{IfOk-weaker}
use Rattle.reading.proofs.Lines.{line_read}
use Rattle.reading.proofs.numbers.read_numbers.Goals as goal

pub returns-in-Some-clause-read : goal.returns-in-Some-clause-read
returns-in-Some-clause-read c =
    IfOk-weaker c.read_words.result _ _ (λ o. line_read (λ v. vec_items v) c.args.word.now c.in-Some.rest.now c.args.line.now o c.in-Some.ensures) c.read_words.ensures.read

pub returns-in-Some-clause-asked : goal.returns-in-Some-clause-asked
returns-in-Some-clause-asked c e = (c.in-Some.rest.now, c.in-Some.ensures, c.read_words.ensures.asked e)
