-- What a disk does when it is asked for a write, and when it makes durable what it was asked for. Assumes of it that it has made durable what it says it has.
use Rattle.std.specs.Prelude.{ℕ, Bool, if◌then◌else◌, [], ◌∷◌, ◌++◌}
use Rattle.counter.specs.Cells.{left_by, DiskState, still}

-- one write more waits
abbrev pub with_pending : DiskState → (place value : ℕ) → DiskState
with_pending d p v = record { settled = d.settled; pending = d.pending ++ (record { place = p; value = v } ∷ []) }

-- all that waits is made, if the disk says so
abbrev pub synced_if : (said : Bool) → DiskState → DiskState
synced_if t d = if t then still (left_by d.pending d.settled) else d
