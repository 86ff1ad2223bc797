-- Each schedule is that of its block, computed.
use Rattle.std.proofs.Common.{ap, sym, refl, ◌∙◌, rules}
use Rattle.compression.specs.Fips180.{words, word_after, schedule}
use Rattle.compression.proofs.ends.known_schedule.Goals as goal

pub returns-then-same : goal.returns-then-same
unfolding words word_after schedule
returns-then-same c = refl ∙ ap (schedule 48) (sym (c.same.ensures.0 (search rules)))

pub returns-then-same-2 : goal.returns-then-same-2
unfolding words word_after schedule
returns-then-same-2 c = refl ∙ ap (schedule 48) (sym (c.same-else-same.ensures.0 (search rules)))

pub returns-then-same-3 : goal.returns-then-same-3
unfolding words word_after schedule
returns-then-same-3 c = refl ∙ ap (schedule 48) (sym (c.same-else-same-2.ensures.0 (search rules)))
