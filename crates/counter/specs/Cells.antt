-- Writes to a store's cells, and the disk that may lie below them. Assumes of a disk that it keeps what it acknowledged, and that a write which it did not acknowledge is there as a whole or not at all; of memory nothing.
use Rattle.std.specs.Prelude.{◌≡◌, ℕ, ◌-◌, Bool, true, false, if◌then◌else◌, ◌⊎◌, List, [], ◌∷◌, slice_set}
use Rattle.counter.specs.declared.write.Write.{Write}

-- what numbers are left when writes are made to them, in order
abbrev pub left_by : List Write → List ℕ → List ℕ
left_by [] m = m
left_by (w ∷ ws) m = left_by ws (slice_set m w.place w.value)

-- a write of a value in a cell, if it was made
abbrev pub made_if : Bool → (place value : ℕ) → List Write
made_if t p v = if t then record { place = p; value = v } ∷ [] else []

-- for how many more writes power lasts at most, when one was made or not
abbrev pub lasts_behind : Bool → ℕ → ℕ
lasts_behind t n = if t then n - 1 else n

-- A disk below the cells: the numbers that it is known to hold, and the writes that it was asked for and did not acknowledge since
pub record DiskState : Type 0 where
  pub settled : List ℕ
  pub pending : List Write

-- a disk of which all is known; memory is one
abbrev pub still : List ℕ → DiskState
still m = record { settled = m; pending = [] }

-- what may be found by whoever reads such a disk anew: each write that was not acknowledged may have been made or not
abbrev pub FoundBehind : List Write → (settled found : List ℕ) → Type 0
FoundBehind [] m m₁ = m₁ ≡ m
FoundBehind (w ∷ ws) m m₁ = FoundBehind ws m m₁ ⊎ FoundBehind ws (slice_set m w.place w.value) m₁

abbrev pub Found : DiskState → List ℕ → Type 0
Found d m₁ = FoundBehind d.pending d.settled m₁

-- What a write does to the disk. One that is made is acknowledged, and then nothing waits; a disk for which something waits has to be read anew, so that nothing more is made. One that is not made was not asked for, or waits
abbrev pub Kept : (made : Bool) → (place value : ℕ) → (before after : DiskState) → Type 0
Kept true p v d d₁ = (d.pending ≡ []) × (d₁ ≡ still (slice_set d.settled p v))
Kept false p v d d₁ = (d₁ ≡ d) ⊎ ((d.pending ≡ []) × (d₁ ≡ record { settled = d.settled; pending = record { place = p; value = v } ∷ [] }))
