-- The rows that are hashed: in making the signer's own tree, and in looking at a signature. Where two of them hash to the same, these definitions say which. For every hash h. Assumes nothing: these are definitions.
use Rattle.std.specs.Prelude.{◌≡◌, ℕ, suc, ◌+◌, ◌*◌, ◌/◌, ◌<◌, Bool, List, [], ◌∷◌, ◌++◌, map, ◌≢◌}
use Rattle.hash.specs.Members.{In}
use Rattle.hash.specs.Mix.{Mix}
use Rattle.keys.specs.Keys.{secret_row, shown_row, secret, leaf_row}
use Rattle.tree.specs.Tree.{power, node_row, node, fork}
use Rattle.signatures.specs.Signatures.{Signature, leaf_row_of}

-- a row that is hashed in making the tree of l levels over keys of n bits from the seed s
pub data OwnRow (h : Mix) (n s l : ℕ) : List ℕ → Type 0 where
  own_secret : (i j : ℕ) (b : Bool) → i < power l → j < n → OwnRow h n s l (secret_row s i j b)
  own_shown : (i j : ℕ) (b : Bool) → i < power l → j < n → OwnRow h n s l (shown_row (secret h s i j b))
  own_leaf : (i : ℕ) → i < power l → OwnRow h n s l (leaf_row h n s i)
  own_node : (d k x : ℕ) → suc d + k ≡ l → x < power k → OwnRow h n s l (node_row (node h n s d (2 * x)) (node h n s d (2 * x + 1)))

-- the rows that are hashed on the walk up from node x of value v
abbrev pub walked_rows : Mix → List ℕ → (x v : ℕ) → List (List ℕ)
walked_rows h [] x v = []
walked_rows h (p ∷ ps) x v = fork x v p ∷ walked_rows h ps (x / 2) (h (fork x v p))

-- all rows that are hashed in looking at a signature: of each secret number, of the leaf, and on the walk up
abbrev pub looked_rows : Mix → List Bool → Signature → List (List ℕ)
looked_rows h bs g =
    map shown_row g.parts ++ (leaf_row_of h bs g.parts g.others ∷ walked_rows h g.path g.key (h (leaf_row_of h bs g.parts g.others)))

-- two rows, one of A and one of B, that differ and hash to the same
abbrev pub CollisionOf : Mix → (A B : List ℕ → Type 0) → Type 0
CollisionOf h A B = (a : List ℕ) × (b : List ℕ) × A a × B b × (a ≢ b) × (h a ≡ h b)

-- one of the rows that looking at this signature hashes, and one of the signer's own tree
abbrev pub LocatedCollision : Mix → (bits seed levels : ℕ) → List Bool → Signature → Type 0
LocatedCollision h n s l bs g = CollisionOf h (λ a. In a (looked_rows h bs g)) (OwnRow h n s l)
