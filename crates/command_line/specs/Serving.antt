-- A run on the store in a file. Assumes nothing: these are definitions.
use Rattle.std.specs.Prelude.{ℕ, false, List, Ok, Option}
use Rattle.runs.specs.Runs.{Ended}

-- it ended well, and began with some store, which the file held
abbrev pub RanWell : (input before after : Option (List ℕ)) → Type 0
RanWell input before after = (m : List ℕ) × Ended {E = Unit {0}} false m (λ _. Unit {0}) input before after (Ok tt)
