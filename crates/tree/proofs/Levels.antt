-- The lowest levels as lists: the nodes above those that stand side by side, and the path up between them.
use Rattle.std.proofs.Common.{◌≡◌, ℕ, zero, suc, ◌+◌, ◌*◌, ◌/◌, ◌%◌, ◌<◌, ◌≤◌, List, [], ◌∷◌, map, length, take, get_or, set, sym, refl, ap, subst, ◌∙◌, inl, inr, arith}
use Rattle.std.proofs.Math.ListN.{get_or-map}
use Rattle.std.proofs.lemmas.Bool.{cases_eq, eq-eqb, ne_eqb}
use Rattle.std.proofs.lemmas.List.FromFn.{get_or-map-range_with_len}
use Rattle.std.specs.List.{range_with_len}
use Rattle.hash.specs.Mix.{Mix}
use Rattle.keys.specs.Keys.{leaf}
use Rattle.tree.specs.Tree.{node_row, node, beside, path_from}
use Rattle.tree.specs.Levels.{above}

-- the nodes above those of a level are those of the next one
above_from : (h : Mix) (n s l x y k m : ℕ) → 2 * x ≡ y → 2 * k ≡ m → above h (map (node h n s l) (range_with_len y m)) ≡ map (node h n s (suc l)) (range_with_len x k)
unfolding node
above_from h n s l x y zero m e f =
    let z : 0 ≡ m = omega arith in subst (λ (j : ℕ). above h (map (node h n s l) (range_with_len y j)) ≡ []) z refl
above_from h n s l x y (suc k) m e f =
    let g : suc (suc (2 * k)) ≡ m = omega arith in
    let rest = above_from h n s l (x + 1) (2 * x + 1 + 1) k (2 * k) (omega arith) refl in
    subst (λ (j : ℕ). above h (map (node h n s l) (range_with_len y j)) ≡ map (node h n s (suc l)) (range_with_len x (suc k))) g
    (subst (λ (z : ℕ). above h (map (node h n s l) (range_with_len z (suc (suc (2 * k))))) ≡ map (node h n s (suc l)) (range_with_len x (suc k))) e
    (ap (λ (ns : List ℕ). node h n s (suc l) x ∷ ns) rest))

-- the other node under the same node is under it
beside_near : (x : ℕ) → beside x / 2 ≡ x / 2
unfolding beside
beside_near x = elim (cases_eq (x % 2) 0) [ inl e ↦ rw (eq-eqb (x % 2) 0 e) (omega arith) | inr e ↦ rw (ne_eqb (x % 2) 0 e) (omega arith) ]

module _ {X : Type 0} (f : X → ℕ) (h : Mix) (n s : ℕ) where
  -- numbers that are k nodes of a level side by side, from node k * q on: f says what the numbers mean
  abbrev pub Nodes : (l k q : ℕ) → List X → Type 0
  Nodes l k q xs = map f xs ≡ map (node h n s l) (range_with_len (k * q) k)

  pub low_leaves : (q : ℕ) (keys : List ℕ) (xs : List X) → map f xs ≡ map (leaf h n s) keys → keys ≡ range_with_len (8 * q) 8 → Nodes 0 8 q xs
  unfolding node
  low_leaves q keys xs e k = e ∙ ap (λ (is : List ℕ). map (leaf h n s) is) k

  pub low_pairs : (q : ℕ) (xs ys : List X) → Nodes 0 8 q xs → map f ys ≡ above h (map f xs) → Nodes 1 4 q ys
  low_pairs q xs ys a e = e ∙ (ap (above h) a ∙ above_from h n s 0 (4 * q) (8 * q) 4 8 (omega arith) refl)

  pub low_halves : (q : ℕ) (xs ys : List X) → Nodes 1 4 q xs → map f ys ≡ above h (map f xs) → Nodes 2 2 q ys
  low_halves q xs ys a e = e ∙ (ap (above h) a ∙ above_from h n s 1 (2 * q) (4 * q) 2 4 (omega arith) refl)

  -- one of them
  found : (l k q i y : ℕ) (xs : List X) (d : X) → Nodes l k q xs → i < k → k * q + i ≡ y → f (get_or xs i d) ≡ node h n s l y
  found l k q i y xs d a b e =
      sym (get_or-map f xs i d) ∙ (ap (λ (ns : List ℕ). get_or ns i (f d)) a ∙ get_or-map-range_with_len (node h n s l) (k * q) k i y (f d) b e)

  -- the node above the last two
  pub low_root : (q : ℕ) (xs : List X) (a b : X) (r : ℕ) → Nodes 2 2 q xs → r ≡ h (node_row (f (get_or xs 0 a)) (f (get_or xs 1 b))) → r ≡ node h n s 3 q
  unfolding node
  low_root q xs a b r k e =
      let left = found 2 2 q 0 (2 * q) xs a k (omega arith) (omega arith) in
      let right = found 2 2 q 1 (2 * q + 1) xs b k (omega arith) (omega arith) in
      e ∙ ap h (λ i. node_row (left i) (right i))

  three_more : (x : ℕ) (ps : List X) (a b c : X) → 3 ≤ length ps → f a ≡ node h n s 0 (beside x) → f b ≡ node h n s 1 (beside (x / 2)) → f c ≡ node h n s 2 (beside (x / 4)) →
      map f (take 3 (set (set (set ps 0 a) 1 b) 2 c)) ≡ path_from h n s 0 3 x
  unfolding path_from
  three_more x (p ∷ q ∷ r ∷ ps) a b c l u v w =
      let e : x / 4 ≡ x / 2 / 2 = omega arith in
      let t = w ∙ ap (λ (y : ℕ). node h n s 2 (beside y)) e in
      λ i. u i ∷ v i ∷ t i ∷ []
  three_more x ps a b c l u v w = absurd (omega arith)

  -- the path up to that node is made of those beside the way, each of which is under the same node as one on it
  pub low_path : (x i j k : ℕ) (xs ys zs ps : List X) (a b c : X) → Nodes 0 8 (x / 8) xs → Nodes 1 4 (x / 8) ys → Nodes 2 2 (x / 8) zs →
      i ≡ beside x → j ≡ beside (x / 2) → k ≡ beside (x / 4) → 3 ≤ length ps →
      map f (take 3 (set (set (set ps 0 (get_or xs (i % 8) a)) 1 (get_or ys (j % 4) b)) 2 (get_or zs (k % 2) c))) ≡ path_from h n s 0 3 x
  low_path x i j k xs ys zs ps a b c l m o u v w e =
      let nu = beside_near x in
      let nv = beside_near (x / 2) in
      let nw = beside_near (x / 4) in
      three_more x ps _ _ _ e
      (found 0 8 (x / 8) (i % 8) (beside x) xs a l (omega arith) (omega arith))
      (found 1 4 (x / 8) (j % 4) (beside (x / 2)) ys b m (omega arith) (omega arith))
      (found 2 2 (x / 8) (k % 2) (beside (x / 4)) zs c o (omega arith) (omega arith))
