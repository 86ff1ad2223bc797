-- What reserving does to cells, whichever they are: with power for some number of writes, the answer, the writes that were added, in their order, and what the cells hold; and what is found of them afterwards. Assumes nothing: these are definitions.
use Rattle.std.specs.Prelude.{◌≡◌, ℕ, ◌+◌, ◌≤◌, Bool, true, List, [], ◌++◌, take, Option, nat_le}
use Rattle.keys.specs.declared.refusal.Refusal.{Refusal}
use Rattle.counter.specs.Answers.{unrefused, unless_refused}
use Rattle.counter.specs.Cells.{DiskState, Found}
use Rattle.counter.specs.Store.{next, reserving, reserved, sound, step, made}
use Rattle.counter.specs.declared.answer.Done.{Done}
use Rattle.counter.specs.declared.answer.Done.TheVariants.{Key}
use Rattle.counter.specs.declared.write.Write.{Write}

-- P holds with power for w writes: n, or fewer where something else may fail
abbrev pub ForPower : (sure : Bool) → (n : ℕ) → (ℕ → Type 0) → Type 0
ForPower sure n P = (w : ℕ) × (w ≤ n) × (sure ≡ true → w ≡ n) × P w

-- both numbers of a key's slot were written, or a front part of them
pub record Written (m : List ℕ) (ok : Bool) (before after : List Write) (m₁ : List ℕ) (w : ℕ) : Type 0 where
  pub both : ok ≡ nat_le 2 w
  pub writes : after ≡ before ++ take w (reserving m)
  pub held : m₁ ≡ reserved w m

-- a key of a tree of l levels was asked for, where o is the first refusal that applies
pub record Asked (o : Option Refusal) (l : ℕ) (m : List ℕ) (d : Done) (before after : List Write) (m₁ : List ℕ) (w : ℕ) : Type 0 where
  pub answer : d ≡ unrefused l m w o
  pub writes : after ≡ before ++ unless_refused o [] (made l m w)
  pub held : m₁ ≡ unless_refused o m (step l m w)

-- the count is not put back: a sound store stays sound, and its next key never gets smaller
abbrev pub KeepsCount : (before after : List ℕ) → Type 0
KeepsCount m m₁ = sound m ≡ true → (sound m₁ ≡ true) × (next m ≤ next m₁)

-- whatever power did: the count is not put back, and a key that is given was the next one, and is below it now
pub record Counts (m : List ℕ) (d : Done) (m₁ : List ℕ) : Type 0 where
  pub keeps : KeepsCount m m₁
  pub given : (i : ℕ) → d ≡ Key i → (i ≡ next m) × (next m₁ ≡ i + 1)

-- what whoever reads the cells anew may find in the place of m: where m is sound it is sound too, and its next key is no smaller and at most one more
abbrev pub Follows : (m found : List ℕ) → Type 0
Follows m m₁ = sound m ≡ true → (sound m₁ ≡ true) × (next m ≤ next m₁) × (next m₁ ≤ next m + 1)

-- the disk below cells that hold m holds m, and whatever is found of it follows
abbrev pub InStep : DiskState → List ℕ → Type 0
InStep d m = (d.settled ≡ m) × ((m₁ : List ℕ) → Found d m₁ → Follows m m₁)

-- a key is given only where nothing waits to be acknowledged
abbrev pub Acknowledged : Done → (before after : DiskState) → Type 0
Acknowledged r d d₁ = (i : ℕ) → r ≡ Key i → (d.pending ≡ []) × (d₁.pending ≡ [])
