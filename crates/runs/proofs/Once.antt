-- What is answered depends on the lines alone.
use Rattle.std.proofs.Common.{◌≡◌, ℕ, true, ◌⊎◌, inl, inr, List, [], ◌∷◌, ◌++◌, map, length, drop, Option, sym, refl, ap, ◌∙◌, subst, arith, append_assoc}
use Rattle.std.specs.List.{flat_map}
use Rattle.std.proofs.lemmas.Grind.{flat_map-append}
use Rattle.std.proofs.lemmas.List.{append-nil, drop_all, length-map}
use Rattle.sha256.specs.Rows.{row_hash}
use Rattle.texts.specs.SignatureLines.{line_after}
use Rattle.texts.proofs.OneMeaning.{same_lines, one_command}
use Rattle.sessions.specs.declared.session.Session.{Session}
use Rattle.sessions.proofs.Alike.{part_of, has_same, executed_once, answered_once}
use Rattle.runs.specs.Turns.{Turn, bytes_printed}
use Rattle.runs.specs.Steps.{Commanded, Unreadable, Turned, Ran, Fresh}
use Rattle.runs.specs.Laws.{AnsweredOnce, PrintedOnce}

abbrev Done : ℕ → Session → List (List ℕ) → Option (List ℕ) → Session → Type 0
Done n s [] printed s₁ = ⊥
Done n s (line ∷ behind) printed s₁ = Commanded true n s line behind printed s₁ ⊎ Unreadable true n s line printed s₁

-- a line and those behind it, done by sessions whose parts that matter are the same
done_once : (n : ℕ) (s r s₁ r₁ : Session) (line : List ℕ) (behind : List (List ℕ)) (o p : Option (List ℕ)) → part_of s ≡ part_of r →
    Done n s (line ∷ behind) o s₁ → Done n r (line ∷ behind) p r₁ → (part_of s₁ ≡ part_of r₁) × (o ≡ p)
done_once n s r s₁ r₁ line behind o p e (inl (c, t, x, q, few, sp, are, done, said, printed)) (inl (d, u, y, q', few', sp', are', done', said', printed')) =
    let one = one_command line c d sp.1 sp'.1 in
    let same : part_of q ≡ part_of q' = ap part_of few ∙ (e ∙ sym (ap part_of few')) in
    let text = answered_once row_hash c d q q' t u x y one same (same_lines t u (line_after n 1) behind are are') said said' in
    (executed_once c d q q' s₁ r₁ one same done done', printed ∙ (text ∙ sym printed'))
done_once n s r s₁ r₁ line behind o p e (inl (c, t, x, q, few, sp, are, done, said, printed)) (inr (unread, refused, kept)) = absurd (unread c sp)
done_once n s r s₁ r₁ line behind o p e (inr (unread, refused, kept)) (inl (c, t, x, q, few, sp, are, done, said, printed)) = absurd (unread c sp)
done_once n s r s₁ r₁ line behind o p e (inr (unread, refused, kept)) (inr (unread', refused', kept')) = (has_same s₁ r₁ _ _ e kept kept', refused ∙ sym refused')

same_turn : (t u : Turn) → t.typed ≡ u.typed → t.printed ≡ u.printed → t ≡ u
same_turn t u e f = ap (λ (ls : List (List ℕ)). record t { typed = ls }) e ∙ ap (λ (o : Option (List ℕ)). record u { printed = o }) f

-- a turn of the same lines
turned_once : (n : ℕ) (s r s₁ r₁ : Session) (t u : Turn) → part_of s ≡ part_of r → t.typed ≡ u.typed → Turned true n s t s₁ → Turned true n r u r₁ → (part_of s₁ ≡ part_of r₁) × (t.printed ≡ u.printed)
turned_once n s r s₁ r₁ t u e typed (line, behind, f, done) (line', behind', g, done') =
    done_once n s r s₁ r₁ line behind t.printed u.printed e done (subst (λ (ls : List (List ℕ)). Done n r ls u.printed r₁) (sym g ∙ (sym typed ∙ f)) done')

-- what is answered does not depend on the lines that follow: a run on more lines makes the same turns first
ran_on : (ts us : List Turn) (n n₁ m₁ : ℕ) (s r s₁ r₁ : Session) (more : List (List (List ℕ))) → part_of s ≡ part_of r → Ran true n s ts n₁ s₁ → Ran true n r us m₁ r₁ →
    map (λ t. t.typed) ts ++ more ≡ map (λ t. t.typed) us → ts ++ drop (length ts) us ≡ us
unfolding Ran
ran_on [] us n n₁ m₁ s r s₁ r₁ more e a b typed = refl
ran_on (t ∷ ts) [] n n₁ m₁ s r s₁ r₁ more e a b typed = cc
ran_on (t ∷ ts) (u ∷ us) n n₁ m₁ s r s₁ r₁ more e (s₂, turn, ran) (r₂, turn', ran') typed =
    let first : t.typed ≡ u.typed = cc in
    let rest : map (λ t. t.typed) ts ++ more ≡ map (λ t. t.typed) us = cc in
    let one = turned_once n s r s₂ r₂ t u e first turn turn' in
    let same = same_turn t u first one.1 in
    let others = ran_on ts us (line_after n (length t.typed)) n₁ m₁ s₂ r₂ s₁ r₁ more one.0 ran (subst (λ (x : Turn). Ran true (line_after n (length x.typed)) r₂ us m₁ r₁) (sym same) ran') rest in
    cc

-- from the start
begun_on : (m : List ℕ) (ts us : List Turn) (n₁ m₁ : ℕ) (s r s₁ r₁ : Session) (more : List (List (List ℕ))) → Fresh m s → Fresh m r → Ran true 0 s ts n₁ s₁ → Ran true 0 r us m₁ r₁ →
    map (λ t. t.typed) ts ++ more ≡ map (λ t. t.typed) us → ts ++ drop (length ts) us ≡ us
begun_on m ts us n₁ m₁ s r s₁ r₁ more (store, levels, bits, seed, power) (store', levels', bits', seed', power') = ran_on ts us 0 n₁ m₁ s r s₁ r₁ more (cc)

pub answered_once_lem : AnsweredOnce
answered_once_lem m ts us s r s₁ r₁ n₁ m₁ fresh fresh' a b typed =
    let on = begun_on m ts us n₁ m₁ s r s₁ r₁ [] fresh fresh' a b (append-nil _ ∙ typed) in
    let sizes = ap length typed in
    let none = drop_all (length ts) us (omega (arith, sizes, length-map ts (λ t. t.typed), length-map us (λ t. t.typed))) in
    sym (append-nil ts) ∙ (ap (λ (x : List Turn). ts ++ x) (sym none) ∙ on)

pub printed_once_lem : PrintedOnce
printed_once_lem first input p q left ts us more run cut =
    let typed = sym cut.typed ∙ (run.typed ∙ append-nil _) in
    let (s, n, s₁, fresh, ran) = cut.answered in
    let (r, m, r₁, fresh', ran') = run.answered in
    let on = begun_on first us ts n m s r s₁ r₁ more fresh fresh' ran ran' typed in
    let bytes : Turn → List ℕ = λ t. bytes_printed t.printed in
    let rest = flat_map bytes (drop (length us) ts) in
    let all = sym (append-nil p) ∙ (sym run.shown ∙ (ap (flat_map bytes) (sym on) ∙ flat_map-append bytes us (drop (length us) ts))) in
    (left ++ rest, all ∙ (ap (λ (cs : List ℕ). cs ++ rest) cut.shown ∙ append_assoc q left rest))
