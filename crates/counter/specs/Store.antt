-- The store: two slots of two numbers, a count and a check of it. Each number is written at once, and power may fail before a write. Assumes nothing: these are definitions.
use Rattle.std.specs.Prelude.{ℕ, zero, suc, ◌+◌, ◌-◌, ◌*◌, ◌%◌, Bool, if◌then◌else◌, ◌&&◌, ◌||◌, List, [], ◌∷◌, length, take, drop, ◌==◌, nat_le, nat_lt, slice_index, slice_set}
use Rattle.tree.specs.Tree.{power}
use Rattle.counter.specs.declared.write.Write.{Write}

-- the check of a count
abbrev pub check : ℕ → ℕ
check v = (7 * v + 3) % 4294967291

-- a slot is right if its check fits
abbrev pub slot_ok : List ℕ → ℕ → Bool
slot_ok m k = slice_index m (2 * k + 1) == check (slice_index m (2 * k))

-- the count in a slot that is right
abbrev pub count_in : List ℕ → ℕ → ℕ
count_in m k = if slot_ok m k then slice_index m (2 * k) else 0

-- the slot that is written next: the first that is not right, or else the one with the smaller count, the first if they are equal
abbrev pub written : List ℕ → ℕ
written m = if slot_ok m 0 then (if slot_ok m 1 then (if nat_le (count_in m 0) (count_in m 1) then 0 else 1) else 1) else 0

-- the next key: the count in the other slot
abbrev pub next : List ℕ → ℕ
next m = count_in m (1 - written m)

-- the writes that reserve it, in their order: one more in the slot that is written next, first as the count, then the check
abbrev pub reserving : List ℕ → List Write
reserving m =
    record { place = 2 * written m; value = next m + 1 }
    ∷ record { place = 2 * written m + 1; value = check (next m + 1) }
    ∷ []

-- the store when the next key was reserved, with power for so many writes: one more in the slot that is written next, first as the count, then the check
abbrev pub reserved : ℕ → List ℕ → List ℕ
reserved zero m = m
reserved (suc zero) m = slice_set m (2 * written m) (next m + 1)
reserved (suc (suc n)) m = slice_set (slice_set m (2 * written m) (next m + 1)) (2 * written m + 1) (check (next m + 1))

-- a store is sound if it is four numbers, and one of its slots is right
abbrev pub sound : List ℕ → Bool
sound m = length m == 4 && (slot_ok m 0 || slot_ok m 1)

-- the store after a key was asked for, from a tree of so many levels, with power for so many writes: nothing is written where all keys were given
abbrev pub step : (levels : ℕ) → List ℕ → ℕ → List ℕ
step l m n = if nat_lt (next m) (power l) then reserved n m else m

-- the writes that were made for it: a front part of those that reserve the key, as far as power lasts
abbrev pub made : (levels : ℕ) → List ℕ → ℕ → List Write
made l m n = if nat_lt (next m) (power l) then take n (reserving m) else []

-- whether the key is given: there is one, and both numbers are written
abbrev pub gives : (levels : ℕ) → List ℕ → ℕ → Bool
gives l m n = nat_lt (next m) (power l) && nat_le 2 n

-- the slot that counts, the one that is not written next, as a part of the store: two numbers, or none where the store is not sound
abbrev pub counting : List ℕ → List ℕ
counting m = if sound m then take 2 (drop (2 * (1 - written m)) m) else []
