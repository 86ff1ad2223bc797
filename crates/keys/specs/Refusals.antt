-- The refusals: the number and the place of each, and when the first two apply that need no store. Assumes nothing: these are definitions.
use Rattle.std.specs.Prelude.{◌≡◌, ℕ, if◌then◌else◌, ◌&&◌, List, ◌++◌, Some, None, Ok, Err, codes, decimal, Option, Result, nat_le}
use Rattle.keys.specs.Limits.{max_levels, max_bits}
use Rattle.keys.specs.declared.refusal.Refusal.{Refusal}
use Rattle.keys.specs.declared.refusal.Refusal.TheVariants.{Levels, Store, NextKey, Bits, Line}

-- the number in the list of refusals
abbrev pub refusal_number : Refusal → ℕ
refusal_number (Levels l) = 1
refusal_number (Store at) = 2
refusal_number (NextKey k) = 3
refusal_number (Bits n) = 4
refusal_number (Line at) = 5

-- the place that is told with it
abbrev pub refusal_place : Refusal → ℕ
refusal_place (Levels l) = l
refusal_place (Store at) = at
refusal_place (NextKey k) = k
refusal_place (Bits n) = n
refusal_place (Line at) = at

-- a refusal as it is printed: its number and its place
abbrev pub refusal_spelled : Refusal → List ℕ
refusal_spelled r = decimal (refusal_number r) ++ (codes " " ++ decimal (refusal_place r))

-- the first of two that applies
abbrev pub first : Option Refusal → Option Refusal → Option Refusal
first (Some r) next = Some r
first None next = next

-- more levels than a tree may have
abbrev pub levels_refusal : ℕ → Option Refusal
levels_refusal l = if nat_le l max_levels then None else Some (Levels l)

-- no bits, or more than a key may have
abbrev pub bits_refusal : ℕ → Option Refusal
bits_refusal n = if nat_le 1 n && nat_le n max_bits then None else Some (Bits n)

-- the first that applies to what is made of a tree of l levels over keys of n bits
abbrev pub tree_refusal : (levels bits : ℕ) → Option Refusal
tree_refusal l n = first (levels_refusal l) (bits_refusal n)

-- an answer is that refusal, or else what is made, of which P holds
abbrev pub Unless : {T : Type 0} → Option Refusal → Result T Refusal → (T → Type 0) → Type 0
Unless (Some r) (Ok x) P = ⊥
Unless (Some r) (Err e) P = e ≡ r
Unless None (Ok x) P = P x
Unless None (Err e) P = ⊥
