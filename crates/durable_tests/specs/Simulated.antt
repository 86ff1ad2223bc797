-- What is known of a simulated disk. Assumes nothing: this is a definition.
use Rattle.std.specs.Prelude.{ℕ, List}
use Rattle.counter.specs.Cells.{DiskState}
use Rattle.counter.specs.declared.write.Write.{Write}

-- the numbers that it holds, and the writes that wait
abbrev pub at : (settled : List ℕ) → (pending : List Write) → DiskState
at m ws = record { settled = m; pending = ws }
