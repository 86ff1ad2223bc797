-- What is promised of the turns of any run, from what each of them says.
use Rattle.std.proofs.Common.{◌≡◌, ℕ, Bool, true, ◌⊎◌, inl, inr, All, List, [], ◌∷◌, ◌++◌, length, vec_items, sym, refl, ap, ◌∙◌, subst, arith}
use Rattle.std.proofs.lemmas.List.Elements.{All-nil, All-cons, All-head, All-tail}
use Rattle.hash.specs.Value.{value_of}
use Rattle.tree.specs.declared.own.Tree.{Tree}
use Rattle.counter.specs.Reserving.{KeepsCount}
use Rattle.texts.specs.SignatureLines.{line_after}
use Rattle.sessions.specs.declared.session.Session.{Session}
use Rattle.runs.specs.Turns.{Turn}
use Rattle.runs.specs.Steps.{Turned, Ran, Fresh}
use Rattle.runs.specs.Promises.{IsStore, IsLevels, NoLevels, AskedWith, KeysRise, SignaturesAccepted, LookedOwn, RootsPrinted, Promised}
use Rattle.runs.proofs.Turned.{counted, NotLevels, levelled, shown, key_printed, root_said}

-- a run as far as one of its turns, that turn, and the rest
abbrev pub AtTurn : Bool → ℕ → Session → (before : List Turn) → Turn → (after : List Turn) → ℕ → Session → Type 0
AtTurn b n s before t after n₁ s₁ =
    (m : ℕ) × (s₂ : Session) × (s₃ : Session) × Ran b n s before m s₂ × Turned b m s₂ t s₃ × Ran b (line_after m (length t.typed)) s₃ after n₁ s₁

at_turn : (b : Bool) (before after : List Turn) (t : Turn) (n n₁ : ℕ) (s s₁ : Session) → Ran b n s (before ++ (t ∷ after)) n₁ s₁ → AtTurn b n s before t after n₁ s₁
unfolding Ran
at_turn b [] after t n n₁ s s₁ (s₂, turn, rest) = (n, s, s₂, (refl, refl), turn, rest)
at_turn b (u ∷ before) after t n n₁ s s₁ (s₂, turn, rest) =
    let a = at_turn b before after t (line_after n (length u.typed)) n₁ s₂ s₁ rest in
    (a.0, a.1, a.2, (s₂, turn, a.3), a.4, a.5)

-- turns with no `store` among them
kept : (b : Bool) (ts : List Turn) (n n₁ : ℕ) (s s₁ : Session) → Ran b n s ts n₁ s₁ → All (λ t. b ≡ true → IsStore t → ⊥) ts → KeepsCount (vec_items s.store) (vec_items s₁.store)
unfolding Ran
kept b [] n n₁ s s₁ (number, same) none = subst (λ (x : Session). KeepsCount (vec_items s.store) (vec_items x.store)) (sym same) (λ h. (h, omega arith))
kept b (t ∷ ts) n n₁ s s₁ (s₂, turn, rest) none = λ h.
    let first = counted b n s s₂ t turn (All-head (λ x. b ≡ true → IsStore x → ⊥) t ts none) h in
    let more = kept b ts (line_after n (length t.typed)) n₁ s₂ s₁ rest (All-tail (λ x. b ≡ true → IsStore x → ⊥) t ts none) first.0 in
    (more.0, omega (arith, first.1, more.1))

-- the last `levels` line of some turns, where there is one
abbrev pub LastLevels : List Turn → (before after : Session) → Type 0
LastLevels ts s s₁ =
    ((before after : List Turn) × (t : Turn) × (ts ≡ before ++ (t ∷ after)) × IsLevels t s₁.tree.signer.levels s₁.tree.bits (value_of s₁.tree.signer.seed) × NoLevels after)
    ⊎ (NoLevels ts × (s₁.tree ≡ s.tree))

last_levels : (b : Bool) (ts : List Turn) (n n₁ : ℕ) (s s₁ : Session) → Ran b n s ts n₁ s₁ → LastLevels ts s s₁
unfolding Ran
last_levels b [] n n₁ s s₁ (number, same) = inr (All-nil NotLevels, ap (λ (x : Session). x.tree) same)
last_levels b (t ∷ ts) n n₁ s s₁ (s₂, turn, rest) =
    elim (last_levels b ts (line_after n (length t.typed)) n₁ s₂ s₁ rest) [
      | inl (before, after, u, e, is, none) ↦ inl (t ∷ before, after, u, ap (λ (us : List Turn). t ∷ us) e, is, none)
      | inr (none, same) ↦ elim (levelled b n s s₂ t turn) [
        | inl is ↦ inl ([], ts, t, refl, subst (λ (x : Tree). IsLevels t x.signer.levels x.bits (value_of x.signer.seed)) (sym same) is, none)
        | inr (not, was) ↦ inr (All-cons NotLevels t ts not none, same ∙ was)
      ]
    ]

asked_with : (b : Bool) (m : List ℕ) (ts : List Turn) (n n₁ : ℕ) (s s₁ : Session) → Fresh m s → Ran b n s ts n₁ s₁ → AskedWith ts s₁.tree.signer.levels s₁.tree.bits (value_of s₁.tree.signer.seed)
asked_with b m ts n n₁ s s₁ fresh ran =
    elim (last_levels b ts n n₁ s s₁ ran) [
      | inl found ↦ inl found
      | inr (none, same) ↦ inr (none, ap (λ (x : Tree). x.signer.levels) same ∙ fresh.1, ap (λ (x : Tree). x.bits) same ∙ fresh.2, ap (λ (x : Tree). value_of x.signer.seed) same ∙ fresh.3)
    ]

keys_rise : (b : Bool) (ts : List Turn) (n n₁ : ℕ) (s s₁ : Session) → Ran b n s ts n₁ s₁ → KeysRise b ts
keys_rise b ts n n₁ s s₁ ran before between after t u j k e none pt pu =
    let a = at_turn b before (between ++ (u ∷ after)) t n n₁ s s₁ (subst (λ (xs : List Turn). Ran b n s xs n₁ s₁) e ran) in
    let next = at_turn b between after u (line_after a.0 (length t.typed)) n₁ a.2 s₁ a.5 in
    let first = key_printed b a.0 j a.1 a.2 t a.4 pt in
    let second = key_printed b next.0 k next.1 next.2 u next.4 pu in
    let count = kept b between (line_after a.0 (length t.typed)) next.0 a.2 next.1 next.3 none first.stays_sound in
    omega (arith, first.now_next, second.was_next, count.1)

signatures_accepted : (b : Bool) (m : List ℕ) (ts : List Turn) (n n₁ : ℕ) (s s₁ : Session) → Fresh m s → Ran b n s ts n₁ s₁ → SignaturesAccepted ts
signatures_accepted b m ts n n₁ s s₁ fresh ran before after t k e printed =
    let a = at_turn b before after t n n₁ s s₁ (subst (λ (xs : List Turn). Ran b n s xs n₁ s₁) e ran) in
    let tree = a.1.tree in
    (tree.signer.levels, tree.bits, value_of tree.signer.seed, asked_with b m before n a.0 s a.1 fresh a.3, (key_printed b a.0 k a.1 a.2 t a.4 printed).own)

looked_own : (b : Bool) (m : List ℕ) (ts : List Turn) (n n₁ : ℕ) (s s₁ : Session) → Fresh m s → Ran b n s ts n₁ s₁ → LookedOwn ts
looked_own b m ts n n₁ s s₁ fresh ran before after t e printed =
    let a = at_turn b before after t n n₁ s s₁ (subst (λ (xs : List Turn). Ran b n s xs n₁ s₁) e ran) in
    let tree = a.1.tree in
    (tree.signer.levels, tree.bits, value_of tree.signer.seed, asked_with b m before n a.0 s a.1 fresh a.3, (shown b a.0 a.1 a.2 t a.4).looks printed)

roots_printed : (b : Bool) (m : List ℕ) (ts : List Turn) (n n₁ : ℕ) (s s₁ : Session) → Fresh m s → Ran b n s ts n₁ s₁ → RootsPrinted ts
roots_printed b m ts n n₁ s s₁ fresh ran before after t e root =
    let a = at_turn b before after t n n₁ s s₁ (subst (λ (xs : List Turn). Ran b n s xs n₁ s₁) e ran) in
    let tree = a.1.tree in
    (tree.signer.levels, tree.bits, value_of tree.signer.seed, asked_with b m before n a.0 s a.1 fresh a.3, root_said b a.0 a.1 a.2 t a.4 root)

pub promised : (b : Bool) (m : List ℕ) (ts : List Turn) (n n₁ : ℕ) (s s₁ : Session) → Fresh m s → Ran b n s ts n₁ s₁ → Promised b ts
promised b m ts n n₁ s s₁ fresh ran =
    record {
      keys_rise = keys_rise b ts n n₁ s s₁ ran;
      signatures_accepted = signatures_accepted b m ts n n₁ s s₁ fresh ran;
      looked_own = looked_own b m ts n n₁ s s₁ fresh ran;
      roots_printed = roots_printed b m ts n n₁ s s₁ fresh ran;
    }
