-- What one line does to the program, what the end of the input does, and what a turn is, where the store is in memory alone and where it lies on a disk. The hash is SHA-256. Assumes nothing: these are definitions.
use Rattle.std.specs.Prelude.{◌≡◌, ℕ, ◌<◌, Bool, true, false, ◌⊎◌, List, [], ◌∷◌, ◌++◌, map, length, codes, Some, None, vec_items, string_bytes, Option, String, Vec}
use Rattle.std.specs.Option.{option_map}
use Rattle.std.specs.declared.alloc.Global.{Global}
use Rattle.hash.specs.Value.{value_of}
use Rattle.sha256.specs.Rows.{row_hash}
use Rattle.keys.specs.Refusals.{refusal_spelled}
use Rattle.keys.specs.declared.refusal.Refusal.TheVariants.{Line}
use Rattle.counter.specs.Cells.{DiskState}
use Rattle.counter.specs.Reserving.{KeepsCount, InStep}
use Rattle.texts.specs.Commands.{Spelled}
use Rattle.texts.specs.SignatureLines.{line_after, LinesAre}
use Rattle.texts.specs.declared.command.Command.{Command}
use Rattle.texts.specs.declared.command.Command.TheVariants.{Store, Sign}
use Rattle.texts.specs.declared.signature.SignatureLines.{SignatureLines}
use Rattle.sessions.specs.Sessions.{Unchanged, AfterSign, FewerWrites, Executed, Answered}
use Rattle.sessions.specs.declared.session.Session.{Session}
use Rattle.runs.specs.Turns.{whole, Turn}
use Rattle.runs.specs.declared.program.Program.{Program}

-- whether a command is one at all: a store on a disk cannot be replaced, so that `store` is a command only where the store is in memory
abbrev pub allowed : (in_memory : Bool) → Command → Bool
allowed b (Store v) = b
allowed b c = true

-- a line can be read as a command, and spells it
abbrev pub Readable : (in_memory : Bool) → List ℕ → Command → Type 0
Readable b line c = (allowed b c ≡ true) × Spelled line c

-- a line is a command, which is done and answered, given the lines behind it; where the store lies on a disk, maybe with power for fewer writes than was said
abbrev pub Commanded : (in_memory : Bool) → ℕ → Session → (line : List ℕ) → (behind : List (List ℕ)) → Option (List ℕ) → Session → Type 0
Commanded b n s line behind printed s₁ =
    (c : Command) × (four : SignatureLines) × (text : Option (String Global)) × (r : Session) × FewerWrites b c s r × Readable b line c × LinesAre four (line_after n 1) behind
    × Executed r c s₁ × Answered row_hash r c four text × (printed ≡ option_map string_bytes text)

-- a line is no command: it is refused by its number, and nothing is changed
abbrev pub Unreadable : (in_memory : Bool) → ℕ → Session → (line : List ℕ) → Option (List ℕ) → Session → Type 0
Unreadable b n s line printed s₁ = ((c : Command) → Readable b line c → ⊥) × (printed ≡ Some (refusal_spelled (Line n))) × Unchanged s s₁

-- a turn whose first line has the number n
abbrev pub Turned : (in_memory : Bool) → ℕ → Session → Turn → Session → Type 0
Turned b n s t s₁ =
    (line : List ℕ) × (behind : List (List ℕ)) × (t.typed ≡ line ∷ behind) × (Commanded b n s line behind t.printed s₁ ⊎ Unreadable b n s line t.printed s₁)

-- turns one after the other
unfoldable pub Ran : (in_memory : Bool) → ℕ → Session → List Turn → ℕ → Session → Type 0
Ran b n s [] n₁ s₁ = (n₁ ≡ n) × (s₁ ≡ s)
Ran b n s (t ∷ ts) n₁ s₁ = (s₂ : Session) × Turned b n s t s₂ × Ran b (line_after n (length t.typed)) s₂ ts n₁ s₁

-- a session as the program begins: that store; levels, bits and seed 0; power that lasts
abbrev pub Fresh : (store : List ℕ) → Session → Type 0
Fresh m s =
    (vec_items s.store ≡ m) × (s.tree.signer.levels ≡ 0) × (s.tree.bits ≡ 0) × (value_of s.tree.signer.seed ≡ 0) × (s.power ≡ None)

-- the lines that a `look` has taken so far, itself the first; none where none waits
abbrev pub taken : Program → List (List ℕ)
taken p = map vec_items (vec_items p.taken)

-- these lines are a turn, and no more of it is waited for
abbrev pub EndsTurn : (in_memory : Bool) → Program → List (List ℕ) → Option (List ℕ) → Program → Type 0
EndsTurn b p lines printed p₁ =
    Turned b p.number p.session (record { typed = lines; printed = printed }) p₁.session × (taken p₁ ≡ []) × (p₁.number ≡ line_after p.number (length lines))

-- the lines that were taken are a turn
abbrev pub TurnEnds : (in_memory : Bool) → Program → Option (List ℕ) → Program → Type 0
TurnEnds b p printed p₁ = 0 < length (taken p) → EndsTurn b p (taken p) printed p₁

-- one line more: with those taken before it is a whole turn, or it is taken, and nothing else happens
pub record Stepped (b : Bool) (p : Program) (line : List ℕ) (printed : Option (List ℕ)) (p₁ : Program) : Type 0 where
  pub ends : whole (taken p ++ (line ∷ [])) ≡ true → EndsTurn b p (taken p ++ (line ∷ [])) printed p₁
  pub waits : whole (taken p ++ (line ∷ [])) ≡ false → (printed ≡ None) × (taken p₁ ≡ taken p ++ (line ∷ [])) × (p₁.session ≡ p.session) × (p₁.number ≡ p.number)

-- the end of the input: what a `look` has taken is a turn, though lines of it are missing
pub record Finished (b : Bool) (p : Program) (printed : Option (List ℕ)) (p₁ : Program) : Type 0 where
  pub nothing : taken p ≡ [] → (printed ≡ None) × (p₁ ≡ p)
  pub ends : TurnEnds b p printed p₁

-- memory failed in a turn of these lines: all is as it was, but of a `sign` line a key may have been reserved, and then power lasts
unfoldable pub FailedAt : (in_memory : Bool) → List (List ℕ) → Session → Session → Type 0
FailedAt b lines s s₁ =
    Unchanged s s₁
    ⊎ ((text : Vec ℕ Global) × (behind : List (List ℕ)) × (r : Session) × (lines ≡ (codes "sign " ++ vec_items text) ∷ behind) × FewerWrites b (Sign text) s r × AfterSign r s₁)

-- memory failed while these lines were to be a turn: what was taken and the number are as they were
abbrev pub Kept : (in_memory : Bool) → List (List ℕ) → (before after : Program) → Type 0
Kept b lines p p₁ = FailedAt b lines p.session p₁.session × (taken p₁ ≡ taken p) × (p₁.number ≡ p.number)

-- of a store on a disk the count is not put back, and the disk stays in step with the store if it was: whatever is answered, and also where memory fails
abbrev pub KeptInStep : (in_memory : Bool) → DiskState → (before : List ℕ) → DiskState → (after : List ℕ) → Type 0
KeptInStep b d m d₁ m₁ = b ≡ false → KeepsCount m m₁ × (InStep d m → InStep d₁ m₁)
