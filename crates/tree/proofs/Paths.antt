-- The signer's own paths, one level further up.
use Rattle.std.proofs.Common.{◌≡◌, ℕ, zero, suc, ◌+◌, ◌-◌, ◌*◌, ◌/◌, ◌%◌, ◌^◌, ◌<◌, List, [], ◌∷◌, ◌++◌, map, length, take, set, sym, refl, ap, ◌∙◌, mod-eq_of_lt, pow-suc, div-one, add-one, arith, shl_lt, shr-shr, shr_lt}
use lib.Pow.{shl-shr}
use Rattle.hash.specs.Mix.{Mix}
use Rattle.hash.proofs.Fronts.{front_more}
use Rattle.keys.specs.Keys.{leaf}
use Rattle.tree.specs.Tree.{node, beside, path_from, fork}
use Rattle.tree.proofs.Walks.{half_up, fork_own, beside_below}

-- the first leaf below a node is below it
pub first_leaf : (x l : ℕ) → x * 2 ^ l < 2 ^ 64 → x * 2 ^ l % 2 ^ 64 / 2 ^ l ≡ x
first_leaf x l h = rw (mod-eq_of_lt {n = x * 2 ^ l} {m = 2 ^ 64} h) (shl-shr x l)

-- the node beside one that is above a key is above keys of 64 bits, too
pub beside_small : (m x : ℕ) → m < 64 → x < 2 ^ 64 → beside (x / 2 ^ m) * 2 ^ m < 2 ^ 64
beside_small m x b l =
    let full : (64 - m) + m ≡ 64 = omega arith in
    let step : 64 - m ≡ suc (63 - m) = omega arith in
    let half : 2 ^ (64 - m) ≡ 2 ^ (63 - m) * 2 = ap (λ (k : ℕ). 2 ^ k) step ∙ pow-suc 2 (63 - m) in
    let at : x / 2 ^ m < 2 ^ (64 - m) = shr_lt (64 - m) m (rw full l) in
    let below = beside_below (x / 2 ^ m) (2 ^ (63 - m)) (omega (arith, at, half)) in
    let s : beside (x / 2 ^ m) < 2 ^ (64 - m) = omega (arith, below, half) in
    rw full at (shl_lt (64 - m) m s)

-- the node above two is worked out of the one on the way and the one beside it
pub node_up : (h : Mix) (n s m x own other r : ℕ) → r ≡ h (fork (x / 2 ^ m) own other) → own ≡ node h n s m (x / 2 ^ m) → other ≡ node h n s m (beside (x / 2 ^ m)) →
    r ≡ node h n s (m + 1) (x / 2 ^ (m + 1))
unfolding node
node_up h n s m x own other r e o b =
    rw (← half_up x m, add-one m) (e ∙ ap h (rw (o, b) (fork_own h n s m (x / 2 ^ m))))

-- a path up to the next level has one number more, at its end
path_push : (h : Mix) (n s d u x t : ℕ) → d + u ≡ t → path_from h n s d (suc u) x ≡ path_from h n s d u x ++ (node h n s t (beside (x / 2 ^ u)) ∷ [])
unfolding path_from
path_push h n s d zero x t e =
    let f : d ≡ t = omega arith in ap (λ (k : ℕ). node h n s k (beside x) ∷ []) f ∙ ap (λ (y : ℕ). node h n s t (beside y) ∷ []) (sym (div-one x))
path_push h n s d (suc u) x t e =
    let up = path_push h n s (suc d) u (x / 2) t (omega arith) in
    let two : x / 2 / 2 ^ u ≡ x / 2 ^ suc u = shr-shr x 1 u ∙ ap (λ (k : ℕ). x / 2 ^ k) (omega arith) in
    ap (λ (ps : List ℕ). node h n s d (beside x) ∷ ps) (rw two at up)

-- so it is written by writing that number behind the path up to this level: f says what the numbers mean
pub path_more : {X : Type 0} (f : X → ℕ) (h : Mix) (n s m x : ℕ) (ps : List X) (p : X) → m < length ps → f p ≡ node h n s m (beside (x / 2 ^ m)) →
    map f (take m ps) ≡ path_from h n s 0 m x → map f (take (m + 1) (set ps m p)) ≡ path_from h n s 0 (m + 1) x
path_more f h n s m x ps p k e so_far = front_more f ps m p k ∙ (rw (so_far, e, add-one m) (sym (path_push h n s 0 m x m (omega arith))))

-- at level 0 the node is the key's leaf, and there is no path yet
pub node_none : (h : Mix) (n s l x v : ℕ) → l ≡ 0 → v ≡ leaf h n s x → v ≡ node h n s l (x / 2 ^ l)
unfolding node
node_none h n s l x v z e = rw (z, div-one x) e

pub path_none : {X : Type 0} (f : X → ℕ) (h : Mix) (n s l x : ℕ) (ps : List X) → l ≡ 0 → map f (take l ps) ≡ path_from h n s 0 l x
unfolding path_from
path_none f h n s l x ps z = rw z refl
