-- What may be found of the disk after a run: its keys are kept.
use Rattle.std.proofs.Common.{◌≡◌, ℕ, ◌≤◌, ◌<◌, Bool, true, false, All, List, [], ◌∷◌, length, vec_items, sym, ap, ◌∙◌, subst, arith}
use Rattle.std.proofs.lemmas.Bool.{false≢true}
use Rattle.std.proofs.lemmas.List.Elements.{All-nil, All-cons}
use Rattle.hash.proofs.Lasts.{All_at}
use Rattle.counter.specs.Cells.{DiskState}
use Rattle.counter.specs.Store.{next, sound}
use Rattle.texts.specs.SignatureLines.{line_after}
use Rattle.sessions.specs.declared.session.Session.{Session}
use Rattle.runs.specs.Turns.{Turn}
use Rattle.runs.specs.Steps.{Ran, KeptInStep}
use Rattle.runs.specs.Promises.{PrintsKey}
use Rattle.runs.specs.Runs.{KeptOnDisk, CountKept}
use Rattle.runs.proofs.Turned.{counted, key_printed}

-- the keys that one turn prints
abbrev pub Within : (a z : ℕ) → Turn → Type 0
Within a z t = (k : ℕ) → PrintsKey t k → (a ≤ k) × (k < z)

-- the keys of a run are those that the count went over
within : (ts : List Turn) (n n₁ a : ℕ) (s s₁ : Session) → Ran false n s ts n₁ s₁ → sound (vec_items s.store) ≡ true → a ≤ next (vec_items s.store) →
    All (Within a (next (vec_items s₁.store))) ts × (sound (vec_items s₁.store) ≡ true) × (next (vec_items s.store) ≤ next (vec_items s₁.store))
unfolding Ran
within [] n n₁ a s s₁ (number, same) is low =
    (All-nil (Within a (next (vec_items s₁.store))), ap (λ (x : Session). sound (vec_items x.store)) same ∙ is, omega (arith, ap (λ (x : Session). next (vec_items x.store)) same))
within (t ∷ ts) n n₁ a s s₁ (s₂, turn, rest) is low =
    let count = counted false n s s₂ t turn (λ e. absurd (false≢true e)) is in
    let more = within ts (line_after n (length t.typed)) n₁ a s₂ s₁ rest count.0 (omega (arith, low, count.1)) in
    let here : Within a (next (vec_items s₁.store)) t = λ k printed.
    let sign = key_printed false n k s s₂ t turn printed in (omega (arith, low, sign.was_next), omega (arith, sign.now_next, more.2)) in
    (All-cons (Within a (next (vec_items s₁.store))) t ts here more.0, more.1, omega (arith, count.1, more.2))

-- from keeping step to keeping step
pub kept_none : (b : Bool) (d : DiskState) (m : List ℕ) → KeptInStep b d m d m
kept_none b d m e = ((λ is. (is, omega arith)), λ step. step)

pub kept_more : (b : Bool) (d d₁ d₂ : DiskState) (m m₁ m₂ : List ℕ) → KeptInStep b d m d₁ m₁ → KeptInStep b d₁ m₁ d₂ m₂ → KeptInStep b d m d₂ m₂
kept_more b d d₁ d₂ m m₁ m₂ first more e = (
  (λ is. let k = (first e).0 is in let j = (more e).0 k.0 in (j.0, omega (arith, k.1, j.1))),
  λ step. (more e).1 ((first e).1 step),
)

-- the disk that was in step
pub count_kept : (b : Bool) (d d₁ : DiskState) (m m₁ : List ℕ) → KeptInStep b d m d₁ m₁ → CountKept b m d d₁
count_kept b d d₁ m m₁ kept e step m₂ found is =
    let k = (kept e).0 is in
    let f = ((kept e).1 step).1 m₂ found k.0 in
    (f.0, omega (arith, k.1, f.1))

-- a run that was in step with it so far, and what was done to the store since
pub kept_on_disk : (b : Bool) (ts : List Turn) (n₁ : ℕ) (s s₁ : Session) (d d₁ d₂ : DiskState) (m m₂ : List ℕ) → vec_items s.store ≡ m → Ran b 0 s ts n₁ s₁ →
    KeptInStep b d m d₁ (vec_items s₁.store) → KeptInStep b d₁ (vec_items s₁.store) d₂ m₂ → KeptOnDisk b m d d₂ ts
kept_on_disk true ts n₁ s s₁ d d₁ d₂ m m₂ first ran kept since e step is m₃ found = absurd (false≢true (sym e))
kept_on_disk false ts n₁ s s₁ d d₁ d₂ m m₂ first ran kept since e step is m₃ found =
    let all = within ts 0 n₁ (next m) s s₁ ran (ap sound first ∙ is) (omega (arith, ap next first)) in
    let more = (since e).0 all.1 in
    let f = ((since e).1 ((kept e).1 step)).1 m₃ found more.0 in
    let low : next m ≤ next (vec_items s₁.store) = omega (arith, ap next first, all.2) in (
      f.0,
      omega (arith, low, more.1, f.1),
      λ before after t k at printed.
          let w = All_at (Within (next m) (next (vec_items s₁.store))) before after t (subst (All (Within (next m) (next (vec_items s₁.store)))) at all.0) k printed in
          (w.0, omega (arith, w.1, more.1, f.1)),
    )
