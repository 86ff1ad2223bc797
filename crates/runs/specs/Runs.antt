-- A run: the bytes that are read and those that are printed. Assumes nothing: these are definitions.
use Rattle.std.specs.Prelude.{◌≡◌, ℕ, zero, suc, Bool, true, false, ◌⊎◌, List, [], ◌∷◌, ◌++◌, map, Ok, Err, Option, Result, IfSome, IsErr, OnOk, MatchResult}
use Rattle.std.specs.List.{flat_map}
use Rattle.std.specs.Io.KnownBytes.{Appends}
use Rattle.reading.specs.Newlines.{lines_of}
use Rattle.counter.specs.Cells.{DiskState, Found}
use Rattle.counter.specs.Reserving.{KeepsCount, InStep}
use Rattle.counter.specs.Store.{sound}
use Rattle.sessions.specs.declared.session.Session.{Session}
use Rattle.runs.specs.Turns.{turns_of, Turn, bytes_printed}
use Rattle.runs.specs.Steps.{Ran, Fresh}
use Rattle.runs.specs.Promises.{KeptBy, Promised}

-- How many bytes are gone, by what a write of some said: as many as it took; none where it was interrupted, so that the same are written again; an error of its own where it took none, and the same one where it failed
abbrev pub Gone : {E : Type 0} → (interrupted none_taken : E → Type 0) → (written gone : Result ℕ E) → Type 0
Gone interrupted none_taken (Ok zero) r = MatchResult r (λ _. ⊥) none_taken
Gone interrupted none_taken (Ok (suc n)) r = r ≡ Ok (suc n)
Gone interrupted none_taken (Err e) r = (interrupted e × (r ≡ Ok 0)) ⊎ ((interrupted e → ⊥) × (r ≡ Err e))

-- a writer took bytes, all but those that are left
abbrev pub AppendsFront : (before after : Option (List ℕ)) → (bytes left : List ℕ) → Type 0
AppendsFront before after bytes left = (front : List ℕ) × (bytes ≡ front ++ left) × Appends before after front

-- these bytes, if they are some, are the end of what is printed for the last turn
abbrev pub LeftOfLast : List Turn → (left : List ℕ) → Type 0
LeftOfLast ts left =
    (left ≡ []) ⊎ ((before : List Turn) × (t : Turn) × (front : List ℕ) × (ts ≡ before ++ (t ∷ [])) × (bytes_printed t.printed ≡ front ++ left))

-- Lines in, lines out, from the store m: the turns that were taken of those that the lines read are cut into, and the bytes that were printed of what they are answered. What is to come: more turns, and what is left of the last answer; nothing where all went well
pub record Run (b : Bool) (m input printed : List ℕ) (ts : List Turn) (more : List (List (List ℕ))) (left : List ℕ) : Type 0 where
  pub typed : turns_of (lines_of input) ≡ map (λ t. t.typed) ts ++ more
  pub shown : flat_map (λ t. bytes_printed t.printed) ts ≡ printed ++ left
  pub last : LeftOfLast ts left
  pub answered : (s : Session) × (n₁ : ℕ) × (s₁ : Session) × Fresh m s × Ran b 0 s ts n₁ s₁
  pub promised : Promised b ts

-- A run has ended. Of a reader that told its bytes: these were read, and a writer took what was printed; where the run ended well, nothing is to come. And of the turns holds what is to hold of them
abbrev pub Ended : {E : Type 0} → (in_memory : Bool) → (store : List ℕ) → (holds : List Turn → Type 0) → (input before after : Option (List ℕ)) → Result (Unit {0}) E → Type 0
Ended b m holds input before after r =
    IfSome input (λ xs. (printed : List ℕ) × (ts : List Turn) × (more : List (List (List ℕ))) × (left : List ℕ)
    × Appends before after printed × Run b m xs printed ts more left × holds ts × OnOk r ((more ≡ []) × (left ≡ [])))

-- the same of a store that is in memory alone, and has no numbers at first
abbrev pub EndedInMemory : {E : Type 0} → (input before after : Option (List ℕ)) → Result (Unit {0}) E → Type 0
EndedInMemory input before after r = Ended true [] (λ _. Unit {0}) input before after r

-- what holds of the turns where the store lies on a disk that was in step with it, and was sound: each key that was printed is kept by the disk as it is then
abbrev pub KeptOnDisk : (in_memory : Bool) → (store : List ℕ) → (before after : DiskState) → List Turn → Type 0
KeptOnDisk b m d d₁ ts = b ≡ false → InStep d m → sound m ≡ true → KeptBy m ts d₁

-- the same of a disk for which nothing waited, and of the store that it held
abbrev pub KeptAll : (before after : DiskState) → List Turn → Type 0
KeptAll d d₁ ts = d.pending ≡ [] → sound d.settled ≡ true → KeptBy d.settled ts d₁

-- memory failed before a line was read: nothing was printed, and the disk is as it was
abbrev pub NotBegun : {E : Type 0} → (before after : Option (List ℕ)) → (d d₁ : DiskState) → Result (Unit {0}) E → Type 0
NotBegun before after d d₁ r = (after ≡ before) × (d₁ ≡ d) × IsErr r

-- a disk that was in step with the store: whatever may be found of it then, the count was not put back
abbrev pub CountKept : (in_memory : Bool) → (store : List ℕ) → (before after : DiskState) → Type 0
CountKept b m d d₁ = b ≡ false → InStep d m → (m₁ : List ℕ) → Found d₁ m₁ → KeepsCount m m₁
