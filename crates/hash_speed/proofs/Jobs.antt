-- What a line that asks for nothing lacks.
use Rattle.std.proofs.Common.{ℕ, List, codes}
use Rattle.hash_speed.specs.declared.job.Job.{Job}
use Rattle.hash_speed.specs.declared.job.Job.TheVariants.{Blocks, Bytes, Looks}
use Rattle.hash_speed.specs.Jobs.{Counted, AsksFor}

pub neither : (line : List ℕ) → ((n : ℕ) → Counted (codes "blocks ") n line → ⊥) → ((n : ℕ) → Counted (codes "bytes ") n line → ⊥) → ((n : ℕ) → Counted (codes "looks ") n line → ⊥) →
    (job : Job) → AsksFor line job → ⊥
neither line p q r (Blocks n) a = p n a
neither line p q r (Bytes n) a = q n a
neither line p q r (Looks n) a = r n a
