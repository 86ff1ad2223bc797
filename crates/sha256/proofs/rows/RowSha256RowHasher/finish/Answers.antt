-- The number is what the digest means.
use Rattle.std.proofs.Common.{ap, ◌∙◌}
use Rattle.hash.specs.Value.{worth}
use Rattle.sha256.specs.Rows.{row_hash}
use Rattle.sha256.proofs.rows.RowSha256RowHasher.finish.Goals as goal

pub returns : goal.returns
unfolding row_hash
returns c = λ xs h. c.from.ensures.1 ∙ ap worth (c.finish.ensures _ h)
