-- What asking a store for a key is answered, and what it leaves. Assumes nothing: these are definitions.
use Rattle.std.specs.Prelude.{ℕ, if◌then◌else◌, List, [], ◌∷◌, length, Some, None, Option, ◌==◌, nat_le, nat_lt}
use Rattle.keys.specs.Refusals.{refusal_number, refusal_place, first, levels_refusal}
use Rattle.keys.specs.declared.refusal.Refusal.{Refusal}
use Rattle.keys.specs.declared.refusal.Refusal.TheVariants.{Store, NextKey}
use Rattle.tree.specs.Tree.{power}
use Rattle.counter.specs.Store.{next, sound, step, gives}
use Rattle.counter.specs.declared.answer.Done.{Done}
use Rattle.counter.specs.declared.answer.Done.TheVariants.{Key, Cut, Empty, Refused}

-- each answer's number, and the values that it carries
abbrev pub done_number : Done → ℕ
done_number (Key i) = 0
done_number Cut = 1
done_number Empty = 2
done_number (Refused r) = 3

abbrev pub done_values : Done → List ℕ
done_values (Key i) = i ∷ []
done_values Cut = []
done_values Empty = []
done_values (Refused r) = refusal_number r ∷ refusal_place r ∷ []

-- a store that is not sound: its length where that is not four, or else 0
abbrev pub store_refusal : List ℕ → Option Refusal
store_refusal m = if sound m then None else Some (Store (if length m == 4 then 0 else length m))

-- a key above the number of keys
abbrev pub key_refusal : ℕ → (levels : ℕ) → Option Refusal
key_refusal k l = if nat_le k (power l) then None else Some (NextKey k)

-- the first refusal that applies to asking the store m for a key of a tree of l levels
abbrev pub reserve_refusal : (levels : ℕ) → List ℕ → Option Refusal
reserve_refusal l m = first (levels_refusal l) (first (store_refusal m) (key_refusal (next m) l))

-- the answer by the first refusal, with power for w writes
abbrev pub unrefused : (levels : ℕ) → List ℕ → (writes : ℕ) → Option Refusal → Done
unrefused l m w (Some r) = Refused r
unrefused l m w None = if gives l m w then Key (next m) else if nat_lt (next m) (power l) then Cut else Empty

-- what is left where the request is refused, or else
abbrev pub unless_refused : {A : Type 0} → Option Refusal → A → A → A
unless_refused (Some r) x y = x
unless_refused None x y = y

-- the answer to a request for a key, with power for w writes, and the store afterwards
abbrev pub reserve_answer : (levels : ℕ) → List ℕ → (writes : ℕ) → Done
reserve_answer l m w = unrefused l m w (reserve_refusal l m)

abbrev pub reserve_stored : (levels : ℕ) → List ℕ → (writes : ℕ) → List ℕ
reserve_stored l m w = unless_refused (reserve_refusal l m) m (step l m w)
