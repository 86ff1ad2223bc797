-- The number fills the block.
use Rattle.std.proofs.Common.{refl}
use Rattle.sha256.proofs.Eight.{row_filled}
use Rattle.sha256.proofs.rows.RowSha256.behind.Goals as goal

pub returns : goal.returns
returns c = λ v half is row h. row_filled c.args.self.now.hasher _ row v half h is refl refl
