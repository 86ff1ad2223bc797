-- The first half as it was, and the number's bytes.
use Rattle.std.proofs.Common.{ℕ, List, ◌++◌, take, ap, ◌∙◌, arith}
use Rattle.sha256.proofs.Eight.{second_half}
use Rattle.sha256.proofs.rows.RowSha256.filled.Goals as goal

pub returns : goal.returns
returns c =
    let b = c.args.self.now.hasher.block in
    second_half b c.copy_from_slice.new.self (omega arith) ∙ ap (λ (xs : List ℕ). take 32 b ++ xs) (c.copy_from_slice.ensures.after ∙ c.to_bytes.ensures.value)
