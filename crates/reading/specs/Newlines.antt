-- A text as lines, and what holds of them. Assumes nothing: these are definitions, and a statement that a function has as its contract.
use Rattle.std.specs.Prelude.{◌≡◌, ℕ, ◌<◌, ◌⊎◌, if◌then◌else◌, List, [], ◌∷◌, ◌++◌, length, ◌==◌}
use Rattle.std.specs.List.{flat_map}
use Rattle.std.specs.Str.Iter.{LacksByte}
use Rattle.hash.specs.Members.{In}

-- a character in front of the first line, or a line of its own
abbrev pub in_front : ℕ → List (List ℕ) → List (List ℕ)
in_front c [] = (c ∷ []) ∷ []
in_front c (l ∷ ls) = (c ∷ l) ∷ ls

-- a text cut at its newlines, the last of which may be missing
abbrev pub lines_of : List ℕ → List (List ℕ)
lines_of [] = []
lines_of (c ∷ cs) = if c == 10 then [] ∷ lines_of cs else in_front c (lines_of cs)

-- lines, and a newline behind each
abbrev pub joined : List (List ℕ) → List ℕ
joined ls = flat_map (λ l. l ++ (10 ∷ [])) ls

-- some lines end in one that is not empty
abbrev pub EndsFull : List (List ℕ) → Type 0
EndsFull ls = (before : List (List ℕ)) × (l : List ℕ) × (ls ≡ before ++ (l ∷ [])) × (0 < length l)

-- no line holds a newline; and lines with a newline behind each are the text again, or the text and the newline that its last line lacks
abbrev pub LinesJoined : Type 0
LinesJoined =
    (cs : List ℕ) → ((l : List ℕ) → In l (lines_of cs) → LacksByte 10 l)
    × ((joined (lines_of cs) ≡ cs) ⊎ ((joined (lines_of cs) ≡ cs ++ (10 ∷ [])) × EndsFull (lines_of cs)))
