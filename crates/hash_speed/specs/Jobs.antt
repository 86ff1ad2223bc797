-- What a line asks for. Assumes nothing: these are definitions.
use Rattle.std.specs.Prelude.{◌≡◌, ℕ, List, ◌++◌, Ok, codes, ⊤}
use Rattle.std.specs.Str.Parse.{ParsesUnsigned}
use Rattle.hash_speed.specs.declared.job.Job.{Job}
use Rattle.hash_speed.specs.declared.job.Job.TheVariants.{Blocks, Bytes, Looks}

-- a word and a space, and behind them a count
abbrev pub Counted : List ℕ → ℕ → List ℕ → Type 0
Counted word n line = (digits : List ℕ) × (line ≡ word ++ digits) × ParsesUnsigned {E = ⊤} 64 10 digits (Ok n)

-- the line asks for the job
abbrev pub AsksFor : List ℕ → Job → Type 0
AsksFor line (Blocks n) = Counted (codes "blocks ") n line
AsksFor line (Bytes n) = Counted (codes "bytes ") n line
AsksFor line (Looks n) = Counted (codes "looks ") n line
