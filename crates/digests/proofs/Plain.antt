-- The rows that are hashed are rows of numbers below 2^256. All but those of secret numbers begin with a number above 0, and need nothing of the signer.
use Rattle.std.proofs.Common.{◌≡◌, ℕ, zero, suc, ◌+◌, ◌*◌, ◌/◌, ◌%◌, ◌^◌, ◌<◌, Bool, true, false, ◌⊎◌, List, [], ◌∷◌, ◌++◌, map, sym, refl, subst, inl, inr, arith}
use Rattle.std.proofs.lemmas.Bool.{cases_eq}
use Rattle.hash.specs.Members.{In}
use Rattle.hash.proofs.Members.{In-append, from_map}
use Rattle.sha256.specs.Rows.{row_hash, BoundedRow}
use Rattle.sha256.proofs.Bounds.{BoundedRow-nil, BoundedRow-cons, BoundedRow-append, Bounded_left, Bounded_right}
use Rattle.sha256.proofs.Digests.{hash_below_lem}
use Rattle.keys.specs.Keys.{bit, secret_row, shown_row, secret, shown, shown_all, leaf_row, leaf}
use Rattle.tree.specs.Tree.{power, node_row, node, fork}
use Rattle.tree.proofs.Walks.{fork_even, fork_odd}
use Rattle.signatures.specs.Rows.{OwnRow, own_secret, own_shown, own_leaf, own_node, walked_rows, looked_rows}
use Rattle.signatures.specs.Signatures.{Signature, numbers, in_order, shown_of, leaf_row_of}
use Rattle.digests.specs.Promises.{OwnRowsBounded, LookedRowsBounded}

-- such a row that begins with a number above 0
abbrev pub Plain : List ℕ → Type 0
Plain r = BoundedRow r × ((t : ℕ) × (q : List ℕ) × (r ≡ suc t ∷ q))

plain : (t : ℕ) (q : List ℕ) → suc t < 2 ^ 256 → BoundedRow q → Plain (suc t ∷ q)
plain t q small b = (BoundedRow-cons (suc t) q small b, (t, q, refl))

one : (x : ℕ) → x < 2 ^ 256 → BoundedRow (x ∷ [])
one x small = BoundedRow-cons x [] small BoundedRow-nil

two : (x y : ℕ) → x < 2 ^ 256 → y < 2 ^ 256 → BoundedRow (x ∷ y ∷ [])
two x y a b = BoundedRow-cons x (y ∷ []) a (one y b)

shown_plain : (x : ℕ) → x < 2 ^ 256 → Plain (shown_row x)
shown_plain x small = plain 0 (x ∷ []) (omega arith) (one x small)

node_plain : (v w : ℕ) → v < 2 ^ 256 → w < 2 ^ 256 → Plain (node_row v w)
node_plain v w a b = plain 2 (v ∷ w ∷ []) (omega arith) (two v w a b)

fork_plain : (x v p : ℕ) → v < 2 ^ 256 → p < 2 ^ 256 → Plain (fork x v p)
fork_plain x v p a b =
    elim (cases_eq (x % 2) 0) [ inl e ↦ subst Plain (sym (fork_even x v p e)) (node_plain v p a b) | inr n ↦ subst Plain (sym (fork_odd x v p n)) (node_plain p v b a) ]

-- what the hash gives is small
secret_small : (s i j : ℕ) (b : Bool) → secret row_hash s i j b < 2 ^ 256
unfolding secret
secret_small s i j b = hash_below_lem (secret_row s i j b)

shown_small : (x : ℕ) → shown row_hash x < 2 ^ 256
unfolding shown
shown_small x = hash_below_lem (shown_row x)

node_small : (n s l x : ℕ) → node row_hash n s l x < 2 ^ 256
unfolding node leaf
node_small n s zero x = hash_below_lem (leaf_row row_hash n s x)
node_small n s (suc l) x = hash_below_lem (node_row (node row_hash n s l (2 * x)) (node row_hash n s l (2 * x + 1)))

shown_all_bounded : (s i j n : ℕ) → BoundedRow (shown_all row_hash s i j n)
unfolding shown_all
shown_all_bounded s i j zero = BoundedRow-nil
shown_all_bounded s i j (suc n) =
    let v = shown row_hash (secret row_hash s i j false) in
    let w = shown row_hash (secret row_hash s i j true) in
    let more = shown_all row_hash s i (suc j) n in
    BoundedRow-cons v (w ∷ more) (shown_small (secret row_hash s i j false)) (BoundedRow-cons w more (shown_small (secret row_hash s i j true)) (shown_all_bounded s i (suc j) n))

-- a row of the signer's own is one, or that of a secret number
pub own_plain : (n s l : ℕ) (r : List ℕ) → OwnRow row_hash n s l r → Plain r ⊎ ((i : ℕ) × (j : ℕ) × (b : Bool) × (i < power l) × (j < n) × (r ≡ secret_row s i j b))
own_plain n s l r (own_secret i j b k m) = inr (i, j, b, k, m, refl)
own_plain n s l r (own_shown i j b k m) = inl (shown_plain (secret row_hash s i j b) (secret_small s i j b))
own_plain n s l r (own_leaf i k) = inl (plain 1 (shown_all row_hash s i 0 n) (omega arith) (shown_all_bounded s i 0 n))
own_plain n s l r (own_node d k x e m) = inl (node_plain _ _ (node_small n s d (2 * x)) (node_small n s d (2 * x + 1)))

pub bit_small : (b : Bool) → bit b < 2 ^ 256
bit_small true = omega arith
bit_small false = omega arith

secret_bounded : (s i j : ℕ) (b : Bool) → s < 2 ^ 256 → i < 2 ^ 256 → j < 2 ^ 256 → BoundedRow (secret_row s i j b)
secret_bounded s i j b u v w =
    let place = two j (bit b) w (bit_small b) in
    BoundedRow-cons 0 (s ∷ i ∷ j ∷ bit b ∷ []) (omega arith) (BoundedRow-cons s (i ∷ j ∷ bit b ∷ []) u (BoundedRow-cons i (j ∷ bit b ∷ []) v place))

pub own_rows_bounded_lem : OwnRowsBounded
own_rows_bounded_lem n s l r small keys bits own =
    elim (own_plain n s l r own) [
      | inl p ↦ p.0
      | inr q ↦ subst BoundedRow (sym q.5) (secret_bounded s q.0 q.1 q.2 small (omega (arith, q.3)) (omega (arith, q.4)))
    ]

-- the rows that are looked at
in_order_bounded : (b : Bool) (v o : ℕ) → v < 2 ^ 256 → o < 2 ^ 256 → BoundedRow (in_order b v o)
in_order_bounded true v o x y = two o v y x
in_order_bounded false v o x y = two v o x y

shown_of_bounded : (bs : List Bool) (ps os : List ℕ) → BoundedRow os → BoundedRow (shown_of row_hash bs ps os)
unfolding shown_of
shown_of_bounded [] ps os b = BoundedRow-nil
shown_of_bounded (t ∷ bs) [] os b = BoundedRow-nil
shown_of_bounded (t ∷ bs) (p ∷ ps) [] b = BoundedRow-nil
shown_of_bounded (t ∷ bs) (p ∷ ps) (o ∷ os) b =
    let more = shown_of_bounded bs ps os (λ x i. b x (inr i)) in
    BoundedRow-append (in_order t (shown row_hash p) o) _ (in_order_bounded t _ _ (shown_small p) (b o (inl refl))) more

walked_plain : (ps : List ℕ) (x v : ℕ) (r : List ℕ) → BoundedRow ps → v < 2 ^ 256 → In r (walked_rows row_hash ps x v) → Plain r
walked_plain [] x v r b small i = absurd i
walked_plain (p ∷ ps) x v r b small (inl e) = subst Plain (sym e) (fork_plain x v p small (b p (inl refl)))
walked_plain (p ∷ ps) x v r b small (inr i) = walked_plain ps (x / 2) (row_hash (fork x v p)) r (λ y j. b y (inr j)) (hash_below_lem (fork x v p)) i

pub looked_plain : (bs : List Bool) (g : Signature) (r : List ℕ) → BoundedRow (numbers g) → In r (looked_rows row_hash bs g) → Plain r
looked_plain bs g r b i =
    let others = Bounded_left g.others g.path (Bounded_right g.parts (g.others ++ g.path) b) in
    let path = Bounded_right g.others g.path (Bounded_right g.parts (g.others ++ g.path) b) in
    let leaf_row = leaf_row_of row_hash bs g.parts g.others in
    elim (In-append r (map shown_row g.parts) _ i) [
      | inl j ↦ let p = from_map shown_row r g.parts j in subst Plain (sym p.2) (shown_plain p.0 (Bounded_left g.parts (g.others ++ g.path) b p.0 p.1))
      | inr j ↦
          elim j [
            | inl e ↦ subst Plain (sym e) (plain 1 (shown_of row_hash bs g.parts g.others) (omega arith) (shown_of_bounded bs g.parts g.others others))
            | inr k ↦ walked_plain g.path g.key (row_hash leaf_row) r path (hash_below_lem leaf_row) k
          ]
    ]

pub looked_rows_bounded_lem : LookedRowsBounded
looked_rows_bounded_lem bs g r b i = (looked_plain bs g r b i).0
