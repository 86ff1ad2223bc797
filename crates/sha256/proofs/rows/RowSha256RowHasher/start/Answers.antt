-- The first number of the row is the tag.
use Rattle.std.proofs.Common.{ℕ, [], ◌∷◌, subst, ◌∙◌}
use Rattle.sha256.specs.Rows.{row_bytes}
use Rattle.sha256.specs.Streams.{Holds}
use Rattle.sha256.proofs.rows.RowSha256RowHasher.start.Goals as goal

pub returns : goal.returns
returns c = subst (λ (v : ℕ). Holds c.absorb.new.self.hasher (row_bytes (v ∷ []))) (c.from.ensures ∙ c.tag.ensures) (c.absorb.ensures [] c.new.ensures)
