-- The program's turns: a line, or a `look` with the four lines behind it, and the text that is printed for it. Assumes nothing: these are definitions.
use Rattle.std.specs.Prelude.{ℕ, Bool, true, false, if◌then◌else◌, List, [], ◌∷◌, ◌++◌, length, Some, None, Option, nat_le}
use Rattle.texts.specs.Commands.{takes_four}

-- lines are all that a turn takes: one, or five where the first is a `look`
abbrev pub whole : List (List ℕ) → Bool
whole [] = false
whole (line ∷ behind) = if takes_four line then nat_le 4 (length behind) else true

-- the lines that a `look` has taken when the input ends, as a turn; none where none waits
abbrev pub last_turn : (taken : List (List ℕ)) → List (List (List ℕ))
last_turn [] = []
last_turn (line ∷ behind) = (line ∷ behind) ∷ []

-- lines cut into turns, behind the lines that a `look` has taken so far
unfoldable pub turns_from : (taken lines : List (List ℕ)) → List (List (List ℕ))
turns_from taken [] = last_turn taken
turns_from taken (line ∷ lines) =
    if whole (taken ++ (line ∷ [])) then (taken ++ (line ∷ [])) ∷ turns_from [] lines else turns_from (taken ++ (line ∷ [])) lines

-- all lines, cut into turns
abbrev pub turns_of : List (List ℕ) → List (List (List ℕ))
turns_of lines = turns_from [] lines

-- a turn: the lines that were typed, and the text that was printed, if one was
pub record Turn : Type 0 where
  pub typed : List (List ℕ)
  pub printed : Option (List ℕ)

-- the bytes that are printed: the text, and a newline
abbrev pub bytes_printed : Option (List ℕ) → List ℕ
bytes_printed None = []
bytes_printed (Some text) = text ++ (10 ∷ [])
