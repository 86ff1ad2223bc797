-- The tables are roots of primes, by one test that is computed over a whole table.
use Rattle.std.proofs.Common.{◌≡◌, ℕ, zero, suc, ◌+◌, ◌*◌, ◌^◌, Bool, true, false, ◌&&◌, nat_le, nat_lt, List, [], ◌∷◌, take, refl}
use Rattle.std.specs.Prelude.{if◌then◌else◌}
use Rattle.std.specs.List.{AllZip}
use Rattle.std.proofs.lemmas.Bool.{leb-true, ltb-true, and_parts}
use Rattle.compression.specs.Constants.{primes, FirstBits, RootsOf}
use Rattle.compression.specs.Fips180.{K, H₀}

-- how many of 1 to k have an e-th power of at most p: the whole part of the root, for small p
abbrev whole_part : (k e p : ℕ) → ℕ
whole_part zero e p = 0
whole_part (suc k) e p = (if nat_le ((k + 1) ^ e) p then 1 else 0) + whole_part k e p

-- whether w is the first bits behind the whole part c
abbrev fits : (e p w c : ℕ) → Bool
fits e p w c =
    nat_le ((c * 2 ^ 32 + w) ^ e) (p * 2 ^ (32 * e)) && (nat_lt (p * 2 ^ (32 * e)) ((c * 2 ^ 32 + w + 1) ^ e) && nat_lt w (2 ^ 32))

abbrev all_fit : (e : ℕ) → (ps ws : List ℕ) → Bool
all_fit e [] [] = true
all_fit e [] (w ∷ ws) = false
all_fit e (p ∷ ps) [] = false
all_fit e (p ∷ ps) (w ∷ ws) = fits e p w (whole_part 17 e p) && all_fit e ps ws

all_roots : (e : ℕ) (ps ws : List ℕ) → all_fit e ps ws ≡ true → AllZip (FirstBits e) ps ws
all_roots e [] [] t = tt
all_roots e [] (w ∷ ws) t = absurd cc
all_roots e (p ∷ ps) [] t = absurd cc
all_roots e (p ∷ ps) (w ∷ ws) t =
    let here = and_parts _ _ t in
    let low = and_parts _ _ here.0 in
    let high = and_parts _ _ low.1 in
    ((whole_part 17 e p, leb-true _ _ low.0, ltb-true _ _ high.0, ltb-true _ _ high.1), all_roots e ps ws here.1)

pub cube_roots : RootsOf 3 64 K
cube_roots = all_roots 3 (take 64 primes) K refl

pub square_roots : RootsOf 2 8 H₀
square_roots = all_roots 2 (take 8 primes) H₀ refl
