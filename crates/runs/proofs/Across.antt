-- Keys rise over runs one after the other on one store.
use Rattle.std.proofs.Common.{◌≡◌, ℕ, ◌≤◌, ◌⊎◌, inl, inr, List, [], ◌∷◌, ◌++◌, sym, ap, ◌∙◌, arith}
use Rattle.std.specs.List.{flat_map}
use Rattle.counter.specs.Store.{next}
use Rattle.runs.specs.Turns.{Turn}
use Rattle.runs.specs.Promises.{PrintsKey}
use Rattle.runs.specs.Laws.{RunsOn, KeysRiseAcross}

-- a turn of two lists one after the other is in the first or in the second
abbrev Splits : (xs ys before : List Turn) → Turn → (after : List Turn) → Type 0
Splits xs ys before t after =
    ((rest : List Turn) × (xs ≡ before ++ (t ∷ rest)) × (after ≡ rest ++ ys)) ⊎ ((first : List Turn) × (ys ≡ first ++ (t ∷ after)))

splits : (xs ys before after : List Turn) (t : Turn) → xs ++ ys ≡ before ++ (t ∷ after) → Splits xs ys before t after
splits [] ys before after t e = inr (before, e)
splits (x ∷ xs) ys [] after t e =
    let first : x ≡ t = cc in
    let rest : xs ++ ys ≡ after = cc in
    inl (xs, ap (λ (u : Turn). u ∷ xs) first, sym rest)
splits (x ∷ xs) ys (y ∷ before) after t e =
    let first : x ≡ y = cc in
    let rest : xs ++ ys ≡ before ++ (t ∷ after) = cc in
    elim (splits xs ys before after t rest) [
      | inl (more, f, g) ↦ inl (more, ap (λ (us : List Turn). x ∷ us) f ∙ ap (λ (u : Turn). u ∷ (before ++ (t ∷ more))) first, g)
      | inr found ↦ inr found
    ]

-- every key that is printed is at least a
abbrev Above : ℕ → List Turn → Type 0
Above a ts = (before after : List Turn) (t : Turn) (k : ℕ) → ts ≡ before ++ (t ∷ after) → PrintsKey t k → a ≤ k

above : (a : ℕ) (m : List ℕ) (runs : List (List Turn)) → a ≤ next m → RunsOn m runs → Above a (flat_map (λ ts. ts) runs)
unfolding RunsOn
above a m [] low on [] after t k e printed = absurd cc
above a m [] low on (x ∷ before) after t k e printed = absurd cc
above a m (ts ∷ later) low (rise, d, kept, m₁, found, more) before after t k e printed =
    let f = kept m₁ found in
    elim (splits ts (flat_map (λ us. us) later) before after t e) [
      | inl (rest, g, _) ↦ omega (arith, low, (f.2 before rest t k g printed).0)
      | inr (first, g) ↦ above a m₁ later (omega (arith, low, f.1)) more first after t k g printed
    ]

pub keys_rise_across_lem : KeysRiseAcross
unfolding RunsOn
keys_rise_across_lem m [] on [] between after t u j k e none pt pu = absurd cc
keys_rise_across_lem m [] on (x ∷ before) between after t u j k e none pt pu = absurd cc
keys_rise_across_lem m (ts ∷ later) (rise, d, kept, m₁, found, more) before between after t u j k e none pt pu =
    let f = kept m₁ found in
    elim (splits ts (flat_map (λ us. us) later) before (between ++ (u ∷ after)) t e) [
      | inl (rest, g, h) ↦ elim (splits rest (flat_map (λ us. us) later) between after u (sym h)) [
        | inl (last, i, _) ↦ rise before between last t u j k (g ∙ ap (λ (us : List Turn). before ++ (t ∷ us)) i) none pt pu
        | inr (first, i) ↦ omega (arith, (f.2 before rest t j g pt).1, above (next m₁) m₁ later (omega arith) more first after u k i pu)
      ]
      | inr (first, g) ↦ keys_rise_across_lem m₁ later more first between after t u j k g none pt pu
    ]
