-- What is shown of a key, as a signature has it, piece by piece.
use Rattle.std.proofs.Common.{◌≡◌, ℕ, zero, suc, ◌*◌, ◌/◌, Bool, List, [], ◌∷◌, ◌++◌, map, length, take, drop, sym, refl, ap, ◌∙◌, subst, arith}
use Rattle.std.specs.List.{flat_map}
use Rattle.std.specs.Simd.{first_chunks}
use Rattle.std.proofs.Math.Nat.{zero-mul, suc-mul}
use Rattle.std.proofs.lemmas.Simd.{map-map}
use Rattle.std.proofs.lemmas.List.{append_assoc, append-nil, drop-drop, length-map, map-append, nil_from_length, take-append-drop}
use Rattle.hash.specs.Mix.{Mix}
use Rattle.keys.specs.Keys.{shown}
use Rattle.signatures.specs.Signatures.{in_order, shown_of}

-- what is taken in for bits, from what is shown for the bits themselves and for the opposite ones
unfoldable pub told : List Bool → (own others : List ℕ) → List ℕ
told [] vs os = []
told (b ∷ bs) [] os = []
told (b ∷ bs) (v ∷ vs) [] = []
told (b ∷ bs) (v ∷ vs) (o ∷ os) = in_order b v o ++ told bs vs os

pub told_shown : (h : Mix) (bs : List Bool) (ps os : List ℕ) → told bs (map (shown h) ps) os ≡ shown_of h bs ps os
unfolding told shown_of
told_shown h [] ps os = refl
told_shown h (b ∷ bs) [] os = refl
told_shown h (b ∷ bs) (p ∷ ps) [] = refl
told_shown h (b ∷ bs) (p ∷ ps) (o ∷ os) = ap (λ (xs : List ℕ). in_order b (shown h p) o ++ xs) (told_shown h bs ps os)

pub told_parts : {X : Type 0} (f : X → ℕ) (h : Mix) (bs : List Bool) (ps : List X) (os : List ℕ) → told bs (map (λ p. shown h (f p)) ps) os ≡ shown_of h bs (map f ps) os
told_parts f h bs ps os = ap (λ (vs : List ℕ). told bs vs os) (sym (map-map (shown h) f ps)) ∙ told_shown h bs (map f ps) os

-- of rows that are joined, one after the other
pub shown_append : (h : Mix) (bs cs : List Bool) (ps qs os rs : List ℕ) → length ps ≡ length bs → length os ≡ length bs →
    shown_of h (bs ++ cs) (ps ++ qs) (os ++ rs) ≡ shown_of h bs ps os ++ shown_of h cs qs rs
unfolding shown_of
shown_append h [] cs [] qs [] rs p o = refl
shown_append h [] cs (x ∷ ps) qs os rs p o = absurd (omega arith)
shown_append h [] cs [] qs (x ∷ os) rs p o = absurd (omega arith)
shown_append h (b ∷ bs) cs [] qs os rs p o = absurd (omega arith)
shown_append h (b ∷ bs) cs (x ∷ ps) qs [] rs p o = absurd (omega arith)
shown_append h (b ∷ bs) cs (x ∷ ps) qs (y ∷ os) rs p o =
    ap (λ (xs : List ℕ). in_order b (shown h x) y ++ xs) (shown_append h bs cs ps qs os rs (omega arith) (omega arith)) ∙ sym (append_assoc (in_order b (shown h x) y) (shown_of h bs ps os) (shown_of h cs qs rs))

-- chunks that are joined again, and what is behind them
abbrev pub joined : {X : Type 0} → List (List X) → List X → List X
joined xss rest = flat_map (λ xs. xs) xss ++ rest

joined_chunks : {X : Type 0} (n k : ℕ) (xs : List X) → joined (first_chunks n k xs) (drop (k * n) xs) ≡ xs
joined_chunks n zero xs = rw (zero-mul n) refl
joined_chunks n (suc k) xs =
    let behind : drop (suc k * n) xs ≡ drop (k * n) (drop n xs) = ap (λ (i : ℕ). drop i xs) (omega (arith, suc-mul k n)) ∙ sym (drop-drop (k * n) n xs) in
    rw behind (append_assoc (take n xs) _ _ ∙ (ap (λ (ys : List _). take n xs ++ ys) (joined_chunks n k (drop n xs)) ∙ take-append-drop n xs))

-- a slice as chunks is the slice
pub rejoined : {X : Type 0} (n : ℕ) (xs : List X) (chunks pieces : List (List X)) (rest : List X) → chunks ≡ pieces → pieces ≡ first_chunks n (length xs / n) xs → rest ≡ drop (length xs / n * n) xs → joined chunks rest ≡ xs
rejoined n xs chunks pieces rest same front back = rw (same, front, back) (joined_chunks n (length xs / n) xs)

pub length_shown : {X Y : Type 0} (f : X → ℕ) (g : Y → ℕ) (s : ℕ → ℕ) (xs : List X) (ys : List Y) → map g ys ≡ map s (map f xs) → length xs ≡ length ys
length_shown f g s xs ys e = omega (arith, ap length e, length-map ys g, length-map (map f xs) s, length-map xs f)

-- hashers that take in a row piece by piece, for any relation between states and rows
module _ {S : Type 0} (holds : S → List ℕ → Type 0) where
  -- what one has taken in, and what is left to take in, make up a row
  abbrev pub Left : S → (left row : List ℕ) → Type 0
  Left s left row = (front : List ℕ) × holds s front × (front ++ left ≡ row)

  left_next : (a b : S) (piece old new row : List ℕ) → old ≡ piece ++ new → ((xs : List ℕ) → holds a xs → holds b (xs ++ piece)) → Left a old row → Left b new row
  left_next a b piece old new row e takes l =
      (l.0 ++ piece, takes l.0 l.1, append_assoc l.0 piece new ∙ (ap (λ (xs : List ℕ). l.0 ++ xs) (sym e) ∙ l.2))

  left_none : (s : S) (left row : List ℕ) → left ≡ [] → Left s left row → holds s row
  left_none s left row e l = subst (λ (xs : List ℕ). holds s xs) (sym (append-nil l.0) ∙ (ap (λ (xs : List ℕ). l.0 ++ xs) (sym e) ∙ l.2)) l.1

-- and over elements of any type
module _ {S X : Type 0} (holds : S → List ℕ → Type 0) where
  -- one that takes in numbers bit by bit, f of the other and g of the own: it began as s, and a whole row is behind what that held
  abbrev pub Absorbing : (g f : X → ℕ) → S → List ℕ → S → List Bool → (own others : List X) → Type 0
  Absorbing g f s whole t bs vs os =
      (length vs ≡ length bs) × (length os ≡ length bs) × ((row : List ℕ) → holds s row → Left holds t (told bs (map g vs) (map f os)) (row ++ whole))

  pub absorbing_next : (g f : X → ℕ) (s a b : S) (whole : List ℕ) (t : Bool) (v o : X) (w : ℕ) (cs bs : List Bool) (vs ws os rs : List X) →
      cs ≡ t ∷ bs → vs ≡ v ∷ ws → os ≡ o ∷ rs → w ≡ g v → ((xs : List ℕ) → holds a xs → holds b (xs ++ in_order t w (f o))) → Absorbing g f s whole a cs vs os → Absorbing g f s whole b bs ws rs
  unfolding told
  absorbing_next g f s a b whole t v o w cs bs vs ws os rs eb ev eo ew takes l =
      let next : told cs (map g vs) (map f os) ≡ in_order t w (f o) ++ told bs (map g ws) (map f rs) = rw (eb, ev, eo, ew) refl in
      let lb = ap length eb in
      let lv = ap length ev in
      let lo = ap length eo in
      (omega arith, omega arith, λ row h. left_next holds a b (in_order t w (f o)) _ _ _ next takes (l.2 row h))

  pub absorbed : (g f : X → ℕ) (s t : S) (whole : List ℕ) (bs : List Bool) (vs os : List X) → length bs ≡ 0 → Absorbing g f s whole t bs vs os → (row : List ℕ) → holds s row → holds t (row ++ whole)
  unfolding told
  absorbed g f s t whole bs vs os e l row h = left_none holds t (told bs (map g vs) (map f os)) (row ++ whole) (rw (nil_from_length bs e) refl) (l.2 row h)

  -- one that takes in chunks of bits, and an odd rest of them behind
  abbrev pub InChunks : Mix → (X → ℕ) → List Bool → (odd_parts odd_others : List X) → List ℕ → S → List (List Bool) → (parts others : List (List X)) → Type 0
  InChunks h f odd ps os row s bss pss oss =
      (length pss ≡ length bss) × (length oss ≡ length bss) × Left holds s (shown_of h (joined bss odd) (map f (joined pss ps)) (map f (joined oss os))) row

  pub chunk_next : (h : Mix) (f : X → ℕ) (odd : List Bool) (ps os : List X) (row : List ℕ) (a b : S) (c : List Bool) (d e : List X) (css bss : List (List Bool)) (pss qss oss rss : List (List X)) →
      css ≡ c ∷ bss → pss ≡ d ∷ qss → oss ≡ e ∷ rss → length d ≡ length c → length e ≡ length c →
      ((xs : List ℕ) → holds a xs → holds b (xs ++ shown_of h c (map f d) (map f e))) → InChunks h f odd ps os row a css pss oss → InChunks h f odd ps os row b bss qss rss
  chunk_next h f odd ps os row a b c d e css bss pss qss oss rss eb ep eo lp lo takes l =
      let next : shown_of h (joined css odd) (map f (joined pss ps)) (map f (joined oss os)) ≡ shown_of h c (map f d) (map f e) ++ shown_of h (joined bss odd) (map f (joined qss ps)) (map f (joined rss os)) =
      rw (eb, ep, eo, append_assoc c (flat_map (λ xs. xs) bss) odd, append_assoc d (flat_map (λ xs. xs) qss) ps, append_assoc e (flat_map (λ xs. xs) rss) os, map-append f d (joined qss ps), map-append f e (joined rss os))
      (shown_append h c (joined bss odd) (map f d) (map f (joined qss ps)) (map f e) (map f (joined rss os)) (length-map d f ∙ lp) (length-map e f ∙ lo)) in
      let lb = ap length eb in
      let lq = ap length ep in
      let lr = ap length eo in
      (omega arith, omega arith, left_next holds a b (shown_of h c (map f d) (map f e)) _ _ row next takes l.2)
