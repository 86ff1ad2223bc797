-- The tree over the keys, and the walk up in it. For every hash h, and for trees of any number of levels. Assumes nothing: these are definitions.
use Rattle.std.specs.Prelude.{ℕ, zero, suc, ◌+◌, ◌-◌, ◌*◌, ◌/◌, ◌%◌, if◌then◌else◌, List, [], ◌∷◌, ◌==◌}
use Rattle.hash.specs.Mix.{Mix}
use Rattle.keys.specs.Keys.{leaf}

-- two to the power of n: how many keys a tree of n levels has
abbrev pub power : ℕ → ℕ
power zero = 1
power (suc n) = 2 * power n

-- the row of an inner node, from the two nodes below it: 3 says what it is for
abbrev pub node_row : (left right : ℕ) → List ℕ
node_row v w = 3 ∷ v ∷ w ∷ []

-- node x of a level, counted from 0: the leaves are level 0, and a node above two is their hash. The root of l levels is node 0 of level l
unfoldable pub node : Mix → (bits seed level : ℕ) → ℕ → ℕ
node h n s zero x = leaf h n s x
node h n s (suc l) x = h (node_row (node h n s l (2 * x)) (node h n s l (2 * x + 1)))

-- the other node under the same node
unfoldable pub beside : ℕ → ℕ
beside x = if x % 2 == 0 then x + 1 else x - 1

-- the authentication path: for so many levels up, the node beside the one on the way up from node x
unfoldable pub path_from : Mix → (bits seed level up : ℕ) → ℕ → List ℕ
path_from h n s l zero x = []
path_from h n s l (suc u) x = node h n s l (beside x) ∷ path_from h n s (suc l) u (x / 2)

-- the row that is hashed above node x, from its value v and the value p beside it: left or right by the lowest bit of x
unfoldable pub fork : (x v p : ℕ) → List ℕ
fork x v p = if x % 2 == 0 then node_row v p else node_row p v

-- the walk up from node x of value v along a path
unfoldable pub up : Mix → List ℕ → ℕ → ℕ → ℕ
up h [] x v = v
up h (p ∷ ps) x v = up h ps (x / 2) (h (fork x v p))
