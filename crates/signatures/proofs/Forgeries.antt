-- What is accepted is the signer's own, or a row that is looked at and one of the signer's own hash to the same.
use Rattle.std.proofs.Common.{◌≡◌, ℕ, zero, suc, ◌+◌, ◌/◌, ◌<◌, Bool, true, false, ◌⊎◌, List, [], ◌∷◌, map, length, sym, refl, ap, ◌∙◌, inl, inr, arith}
use mathlib.Core.List.{List-discrete}
use native.Mathlib.Decide.{ℕ_discrete}
use Rattle.hash.specs.Members.{In}
use Rattle.hash.specs.Mix.{Mix}
use Rattle.hash.proofs.Members.{In_left, In_right, In-map}
use Rattle.keys.specs.Keys.{shown_row, secret, shown, shown_all, leaf_row, leaf}
use Rattle.tree.specs.Tree.{power, node, beside, path_from, fork, up}
use Rattle.tree.proofs.Walks.{fork_own, fork_same, fork_tag}
use Rattle.signatures.specs.Rows.{OwnRow, own_shown, own_leaf, own_node, walked_rows, looked_rows, CollisionOf, LocatedCollision}
use Rattle.signatures.specs.Signatures.{Signature, each_from, parts_from, others_from, signed, shown_of, leaf_row_of, accepted}
use Rattle.signatures.proofs.Accepts.{tests}

-- two rows that hash to the same are the same, or collide
pub same_or : (h : Mix) (A B : List ℕ → Type 0) (a b : List ℕ) → A a → B b → h a ≡ h b → (a ≡ b) ⊎ CollisionOf h A B
same_or h A B a b x y e = elim (List-discrete ℕ_discrete a b) [ yes p ↦ inl p | no n ↦ inr (a, b, x, y, n, e) ]

module _ (h : Mix) (n s l : ℕ) (A : List ℕ → Type 0) where
  -- one level down
  one_down : (d k x v p : ℕ) → d + k ≡ l → x / 2 < power k → A (fork x v p) → h (fork x v p) ≡ node h n s d (x / 2) →
      ((c : ℕ) × (suc c ≡ d) × (v ≡ node h n s c x) × (p ≡ node h n s c (beside x))) ⊎ CollisionOf h A (OwnRow h n s l)
  unfolding node leaf
  one_down zero k x v p f b a e =
      let g : k ≡ l = omega arith in
      inr (fork x v p, leaf_row h n s (x / 2), a, own_leaf (x / 2) (rw g at b), λ y. let z = fork_tag x v p 2 _ y in cc, e)
  one_down (suc d) k x v p f b a e =
      elim (same_or h A (OwnRow h n s l) (fork x v p) _ a (own_node d k (x / 2) f b) e) [
        | inl y ↦ let r = fork_same x v p _ _ (y ∙ sym (fork_own h n s d x)) in inl (d, refl, r.0, r.1)
        | inr c ↦ inr c
      ]

  -- all the way down from the root
  down : (ps : List ℕ) (x v : ℕ) → ((a : List ℕ) → In a (walked_rows h ps x v) → A a) → x < power (length ps) → up h ps x v ≡ node h n s l 0 →
      ((d : ℕ) × (d + length ps ≡ l) × (v ≡ node h n s d x) × (ps ≡ path_from h n s d (length ps) x)) ⊎ CollisionOf h A (OwnRow h n s l)
  unfolding up path_from
  down [] x v see k e = inl (l, omega arith, e ∙ ap (λ (y : ℕ). node h n s l y) (omega arith), refl)
  down (p ∷ ps) x v see k e =
      elim (down ps (x / 2) (h (fork x v p)) (λ a o. see a (inr o)) (omega arith) e) [
        | inl b ↦
            elim (one_down b.0 (length ps) x v p b.1 (omega arith) (see (fork x v p) (inl refl)) b.2)
            [ inl o ↦ inl (o.0, omega arith, o.2, cc) | inr c ↦ inr c ]
        | inr c ↦ inr c
      ]

  -- the bottom of the tree: only a leaf is the hash of a leaf's row
  bottom : (d k x : ℕ) (r : List ℕ) → d + k ≡ l → x < power k → A (2 ∷ r) → h (2 ∷ r) ≡ node h n s d x →
      ((d ≡ 0) × (r ≡ shown_all h s x 0 n)) ⊎ CollisionOf h A (OwnRow h n s l)
  unfolding node leaf
  bottom zero k x r f b a e =
      let g : k ≡ l = omega arith in
      elim (same_or h A (OwnRow h n s l) (2 ∷ r) (leaf_row h n s x) a (own_leaf x (rw g at b)) e) [ inl y ↦ inl (refl, cc) | inr c ↦ inr c ]
  bottom (suc d) k x r f b a e =
      inr (2 ∷ r, _, a, own_node d k x f b, λ y. cc, e)

  -- a secret number, by what is shown of it
  part : (i j : ℕ) (t : Bool) (p : ℕ) → i < power l → j < n → A (shown_row p) → shown h p ≡ shown h (secret h s i j t) →
      (p ≡ secret h s i j t) ⊎ CollisionOf h A (OwnRow h n s l)
  unfolding shown
  part i j t p a b c e =
      elim (same_or h A (OwnRow h n s l) (shown_row p) (shown_row (secret h s i j t)) c (own_shown i j t a b) e) [ inl y ↦ inl (cc) | inr z ↦ inr z ]

  -- all secret numbers, by all that is shown
  rows : (i j : ℕ) (bs : List Bool) (ps os : List ℕ) (o : ℕ) → i < power l → j + o ≡ n → ((p : ℕ) → In p ps → A (shown_row p)) →
      length ps ≡ length bs → length os ≡ length bs → shown_of h bs ps os ≡ shown_all h s i j o →
      ((o ≡ length bs) × (ps ≡ parts_from h s i j bs) × (os ≡ others_from h s i j bs)) ⊎ CollisionOf h A (OwnRow h n s l)
  unfolding shown_of shown_all each_from
  rows i j [] [] [] zero m f see a b e = inl (refl, refl, refl)
  rows i j [] [] [] (suc o) m f see a b e = absurd cc
  rows i j [] [] (q ∷ os) o m f see a b e = absurd (omega arith)
  rows i j [] (p ∷ ps) os o m f see a b e = absurd (omega arith)
  rows i j (t ∷ bs) [] os o m f see a b e = absurd (omega arith)
  rows i j (t ∷ bs) (p ∷ ps) [] o m f see a b e = absurd (omega arith)
  rows i j (true ∷ bs) (p ∷ ps) (q ∷ os) zero m f see a b e = absurd cc
  rows i j (false ∷ bs) (p ∷ ps) (q ∷ os) zero m f see a b e = absurd cc
  rows i j (true ∷ bs) (p ∷ ps) (q ∷ os) (suc o) m f see a b e =
      elim (part i j true p m (omega arith) (see p (inl refl)) cc) [
        | inl y ↦
            elim (rows i (suc j) bs ps os o m (omega arith) (λ r x. see r (inr x)) (omega arith) (omega arith) cc)
            [ inl r ↦ inl (ap suc r.0, cc, cc) | inr c ↦ inr c ]
        | inr c ↦ inr c
      ]
  rows i j (false ∷ bs) (p ∷ ps) (q ∷ os) (suc o) m f see a b e =
      elim (part i j false p m (omega arith) (see p (inl refl)) cc) [
        | inl y ↦
            elim (rows i (suc j) bs ps os o m (omega arith) (λ r x. see r (inr x)) (omega arith) (omega arith) cc)
            [ inl r ↦ inl (ap suc r.0, cc, cc) | inr c ↦ inr c ]
        | inr c ↦ inr c
      ]

-- each of the three sorts of rows is looked at
module _ (h : Mix) (bs : List Bool) (g : Signature) where
  see_part : (p : ℕ) → In p g.parts → In (shown_row p) (looked_rows h bs g)
  see_part p i = In_left (shown_row p) (map shown_row g.parts) _ (In-map shown_row p g.parts i)

  see_leaf : In (leaf_row_of h bs g.parts g.others) (looked_rows h bs g)
  see_leaf = In_right _ (map shown_row g.parts) _ (inl refl)

  see_walk : (a : List ℕ) → In a (walked_rows h g.path g.key (h (leaf_row_of h bs g.parts g.others))) → In a (looked_rows h bs g)
  see_walk a i = In_right a (map shown_row g.parts) _ (inr i)

pub own_or_located_lem : (h : Mix) (s l n k : ℕ) (bs : List Bool) (g : Signature) → accepted h (node h n s l 0) k bs g ≡ true →
    ((n ≡ length bs) × (k ≡ l) × (g ≡ signed h s l g.key bs)) ⊎ LocatedCollision h n s l bs g
unfolding signed
own_or_located_lem h s l n k bs g acc =
    let A : List ℕ → Type 0 = λ a. In a (looked_rows h bs g) in
    let t = tests h (node h n s l 0) k bs g acc in
    let below : g.key < power (length g.path) = rw t.3 t.0 in
    elim (down h n s l A g.path g.key _ (see_walk h bs g) below t.4) [
      | inl d ↦
          elim (bottom h n s l A d.0 (length g.path) g.key _ d.1 below (see_leaf h bs g) d.2) [
            | inl o ↦
                let kl : k ≡ l = omega arith in
                elim (rows h n s l A g.key 0 bs g.parts g.others n (rw kl at t.0) (omega arith) (see_part h bs g) t.1 t.2 o.1) [
                  | inl r ↦
                      let pp : g.path ≡ path_from h (length bs) s 0 l g.key = cc in
                      inl (r.0, kl, λ i. record { key = g.key; parts = r.1 i; others = r.2 i; path = pp i })
                  | inr c ↦ inr c
                ]
            | inr c ↦ inr c
          ]
      | inr c ↦ inr c
    ]
