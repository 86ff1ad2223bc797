-- The arguments of the program: the words behind its name. Assumes nothing: these are definitions.
use Rattle.std.specs.Prelude.{◌≡◌, ℕ, Bool, true, false, not, List, [], ◌∷◌, ◌==◌, None, Some, Option, codes, string_bytes}
use Rattle.command_line.specs.declared.arguments.Invocation.{Invocation}
use Rattle.command_line.specs.declared.arguments.Invocation.TheVariants.{InMemory, InFile, New, Help}

-- a word is a path: it is not empty, and does not begin with a dash, as an option does
abbrev pub is_path : List ℕ → Bool
is_path [] = false
is_path (c ∷ cs) = not (c == 45)

-- the words ask for that
abbrev pub Asks : List (List ℕ) → Invocation → Type 0
Asks words InMemory = words ≡ []
Asks words (InFile path) = (words ≡ string_bytes path ∷ []) × (is_path (string_bytes path) ≡ true)
Asks words (New path) = (words ≡ codes "--new" ∷ string_bytes path ∷ []) × (is_path (string_bytes path) ≡ true)
Asks words Help = words ≡ codes "--help" ∷ []

-- the path of the store that is asked for
abbrev pub path_of : Invocation → Option (List ℕ)
path_of (InFile path) = Some (string_bytes path)
path_of (New path) = Some (string_bytes path)
path_of i = None

-- what the words ask for was read; or nothing, where they ask for nothing
abbrev pub Read : List (List ℕ) → Option Invocation → Type 0
Read words (Some i) = Asks words i
Read words None = (i : Invocation) → Asks words i → ⊥
