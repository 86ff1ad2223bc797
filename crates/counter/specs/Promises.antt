-- What is promised of the store. Each is a statement; a function of this crate has it as its contract, and so it is proved. Assumes nothing.
use Rattle.std.specs.Prelude.{◌≡◌, ℕ, ◌+◌, ◌*◌, ◌≤◌, ◌<◌, true, false, List, [], ◌∷◌, slice_index}
use Rattle.keys.specs.Limits.{max_levels}
use Rattle.counter.specs.Answers.{reserve_answer, reserve_stored}
use Rattle.counter.specs.Cells.{left_by}
use Rattle.counter.specs.Store.{check, slot_ok, next, sound, step, made, gives, counting}
use Rattle.counter.specs.declared.answer.Done.TheVariants.{Key}

-- a request to the store m of a tree of l levels, with power for n writes: wherever power fails the store is sound afterwards, and the next key is no smaller and at most one more; by one where the key is given; and where it is not, and both slots were right, it is as it was, in a tree that has no more levels than it may
pub record Keeps (l : ℕ) (m : List ℕ) (n : ℕ) : Type 0 where
  pub stays_sound : sound (step l m n) ≡ true
  pub no_smaller : next m ≤ next (step l m n)
  pub one_at_most : next (step l m n) ≤ next m + 1
  pub one_if_given : gives l m n ≡ true → next (step l m n) ≡ next m + 1
  pub none_if_cut : l ≤ max_levels → slot_ok m 0 ≡ true → slot_ok m 1 ≡ true → gives l m n ≡ false → next (step l m n) ≡ next m

abbrev pub StoreKept : Type 0
StoreKept = (l n : ℕ) (m : List ℕ) → sound m ≡ true → Keeps l m n

-- the store afterwards is what the writes that were made, in their order, leave of it
abbrev pub LeftByWrites : Type 0
LeftByWrites = (l n : ℕ) (m : List ℕ) → step l m n ≡ left_by (made l m n) m

-- power for both writes is power that lasts
abbrev pub TwoWrites : Type 0
TwoWrites = (l n : ℕ) (m : List ℕ) → 2 ≤ n → (reserve_answer l m n ≡ reserve_answer l m 2) × (reserve_stored l m n ≡ reserve_stored l m 2)

-- the slot that counts is the next key and its check
abbrev pub SlotCounts : Type 0
SlotCounts = (m : List ℕ) → sound m ≡ true → counting m ≡ next m ∷ check (next m) ∷ []

-- a number is a count whose check fits, and no count whose check fits is larger
abbrev pub LargestRight : List ℕ → ℕ → Type 0
LargestRight m x =
    ((k : ℕ) × (k < 2) × (slot_ok m k ≡ true) × (slice_index m (2 * k) ≡ x)) × ((k : ℕ) → k < 2 → slot_ok m k ≡ true → slice_index m (2 * k) ≤ x)

-- the next key is the largest of them
abbrev pub NextIsLargest : Type 0
NextIsLargest = (m : List ℕ) → sound m ≡ true → LargestRight m (next m)

-- the new store gives key 0, and has the count 1 afterwards
abbrev pub FirstKey : Type 0
FirstKey =
    (l n : ℕ) → l ≤ max_levels → 2 ≤ n →
    (reserve_answer l (0 ∷ 3 ∷ 0 ∷ 3 ∷ []) n ≡ Key 0) × (reserve_stored l (0 ∷ 3 ∷ 0 ∷ 3 ∷ []) n ≡ 1 ∷ 10 ∷ 0 ∷ 3 ∷ [])
