-- What is asked with is determined by the turns before.
use Rattle.std.proofs.Common.{◌≡◌, ℕ, inl, inr, List, [], ◌∷◌, ◌++◌, All, codes, get_or, sym, ap, ◌∙◌, subst}
use Rattle.std.proofs.lemmas.List.{append_cancel_left}
use Rattle.hash.proofs.Lasts.{All_at, one_last}
use Rattle.texts.specs.Commands.{LevelsSpelled}
use Rattle.texts.proofs.OneMeaning.{one_tree}
use Rattle.runs.specs.Turns.{Turn}
use Rattle.runs.specs.Promises.{IsLevels, NoLevels}
use Rattle.runs.specs.Laws.{AskedOnce}
use Rattle.runs.proofs.Turned.{NotLevels}

levels_once : (t : Turn) (l n s k m r : ℕ) → IsLevels t l n s → IsLevels t k m r → (l ≡ k) × (n ≡ m) × (s ≡ r)
levels_once t l n s k m r (x, v, (p, e), a, el, en, es) (y, w, (q, f), b, ek, em, er) =
    let line = ap (λ (ls : List (List ℕ)). get_or ls 0 []) (sym e ∙ f) in
    let same = append_cancel_left (codes "levels ") x y line in
    let told = one_tree x v w a (subst (λ (cs : List ℕ). LevelsSpelled cs w) (sym same) b) in
    (sym el ∙ (told.0 ∙ ek), sym en ∙ (told.1 ∙ em), sym es ∙ (told.2 ∙ er))

none_there : {P : Type 0} (ts before after : List Turn) (t : Turn) (l n s : ℕ) → ts ≡ before ++ (t ∷ after) → IsLevels t l n s → NoLevels ts → P
none_there ts before after t l n s e is none = absurd (All_at NotLevels before after t (subst (All NotLevels) e none) l n s is)

pub asked_once_lem : AskedOnce
asked_once_lem ts l n s k m r (inl (before, after, t, e, is, none)) (inl (first, last, u, f, was, no_more)) =
    let same = one_last NotLevels before first after last t u (sym e ∙ f) (λ not. not l n s is) (λ not. not k m r was) none no_more in
    levels_once t l n s k m r is (subst (λ (x : Turn). IsLevels x k m r) (sym same) was)
asked_once_lem ts l n s k m r (inl (before, after, t, e, is, none)) (inr none_at_all) = none_there ts before after t l n s e is none_at_all.0
asked_once_lem ts l n s k m r (inr none_at_all) (inl (before, after, t, e, is, none)) = none_there ts before after t k m r e is none_at_all.0
asked_once_lem ts l n s k m r (inr (none, el, en, es)) (inr (no_more, ek, em, er)) = (el ∙ sym ek, en ∙ sym em, es ∙ sym er)
