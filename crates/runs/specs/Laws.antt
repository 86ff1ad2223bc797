-- What holds of the definitions of turns and runs. Assumes nothing: these are statements, each proved by a function whose contract it is.
use Rattle.std.specs.Prelude.{◌≡◌, ◌≢◌, ℕ, ◌≤◌, true, false, if◌then◌else◌, List, [], ◌∷◌, ◌++◌, map, length}
use Rattle.std.specs.List.{flat_map}
use Rattle.counter.specs.Cells.{DiskState, Found}
use Rattle.texts.specs.Commands.{takes_four}
use Rattle.sessions.specs.declared.session.Session.{Session}
use Rattle.runs.specs.Turns.{Turn, turns_of}
use Rattle.runs.specs.Steps.{Ran, Fresh}
use Rattle.runs.specs.Runs.{Run}
use Rattle.runs.specs.Promises.{AskedWith, KeysRise, KeptBy}

-- how many lines come behind a line in its turn
abbrev pub behind_it : List ℕ → ℕ
behind_it line = if takes_four line then 4 else 0

-- a turn is a line and those behind it, which may be fewer where no turn follows
abbrev pub OneTurn : List (List ℕ) → (after : List (List (List ℕ))) → Type 0
OneTurn t after =
    (line : List ℕ) × (behind : List (List ℕ)) × (t ≡ line ∷ behind) × (length behind ≤ behind_it line) × (after ≢ [] → length behind ≡ behind_it line)

-- lines are cut into turns: one after the other these are the lines again, none left out and none twice, and each is a turn
abbrev pub LinesCut : Type 0
LinesCut =
    (lines : List (List ℕ)) → (flat_map (λ t. t) (turns_of lines) ≡ lines)
    × ((before after : List (List (List ℕ))) (t : List (List ℕ)) → turns_of lines ≡ before ++ (t ∷ after) → OneTurn t after)

-- turns say what is asked with after them: there is one answer only
abbrev pub AskedOnce : Type 0
AskedOnce = (ts : List Turn) (l n s k m r : ℕ) → AskedWith ts l n s → AskedWith ts k m r → (l ≡ k) × (n ≡ m) × (s ≡ r)

-- what is answered depends on the lines and the first store alone, where it is in memory: two runs on the same lines make the same turns
abbrev pub AnsweredOnce : Type 0
AnsweredOnce =
    (m : List ℕ) (ts us : List Turn) (s r s₁ r₁ : Session) (n₁ m₁ : ℕ) → Fresh m s → Fresh m r → Ran true 0 s ts n₁ s₁ → Ran true 0 r us m₁ r₁ →
    map (λ t. t.typed) ts ≡ map (λ t. t.typed) us → ts ≡ us

-- so what is printed depends on the input and that store alone, and a run that is cut off prints a front part of it
abbrev pub PrintedOnce : Type 0
PrintedOnce =
    (m input p q left : List ℕ) (ts us : List Turn) (more : List (List (List ℕ))) → Run true m input p ts [] [] → Run true m input q us more left → (rest : List ℕ) × (p ≡ q ++ rest)

-- runs one after the other on one store, which lies on a disk, the first from the store m: each keeps its keys, and the next one begins with what was found of the disk
unfoldable pub RunsOn : (first : List ℕ) → List (List Turn) → Type 0
RunsOn m [] = Unit {0}
RunsOn m (ts ∷ later) = KeysRise false ts × (d : DiskState) × KeptBy m ts d × (m₁ : List ℕ) × Found d m₁ × RunsOn m₁ later

-- over all of these runs no key is printed twice: of two keys that are printed the later is the larger
abbrev pub KeysRiseAcross : Type 0
KeysRiseAcross = (m : List ℕ) (runs : List (List Turn)) → RunsOn m runs → KeysRise false (flat_map (λ ts. ts) runs)
