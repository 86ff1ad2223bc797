-- What a reader promises, both ways. Assumes nothing: these are definitions.
use Rattle.std.specs.Prelude.{Option, MatchOption}

-- a value, seen in some way, of which P holds; or none, and then P holds of nothing
abbrev pub ReadsAs : {A B : Type 0} → (P : B → Type 0) → (seen : A → B) → Option A → Type 0
ReadsAs {B = B} P seen o = MatchOption o ((v : B) → P v → ⊥) (λ v. P (seen v))

-- the same of the value itself
abbrev pub Reads : {A : Type 0} → (P : A → Type 0) → Option A → Type 0
Reads P o = ReadsAs P (λ v. v) o
