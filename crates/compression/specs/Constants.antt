-- Where the constants come from (FIPS 180-4, 4.2.2 and 5.3.3): the first 32 bits of the fractional parts of roots of the first primes. Assumes nothing: these are definitions.
use Rattle.std.specs.Prelude.{ℕ, zero, suc, ◌+◌, ◌-◌, ◌*◌, ◌%◌, ◌^◌, ◌<◌, ◌≤◌, Bool, true, not, ◌&&◌, ◌==◌, List, take, filter, nat_le}
use Rattle.std.specs.List.{range_with_len, AllZip}

-- none of the k numbers from 2 on divides n
abbrev pub no_divisor : ℕ → ℕ → Bool
no_divisor zero n = true
no_divisor (suc k) n = not (n % (k + 2) == 0) && no_divisor k n

abbrev pub is_prime : ℕ → Bool
is_prime n = nat_le 2 n && no_divisor (n - 2) n

-- the first 64 primes: those below 312
abbrev pub primes : List ℕ
primes = filter is_prime (range_with_len 0 312)

-- w is the first 32 bits of the fractional part of the e-th root of p: with the root's whole part c before them, the number is the largest whose e-th power is at most p, both taken 2^32 times as fine
abbrev pub FirstBits : (e p w : ℕ) → Type 0
FirstBits e p w = (c : ℕ) × ((c * 2 ^ 32 + w) ^ e ≤ p * 2 ^ (32 * e)) × (p * 2 ^ (32 * e) < (c * 2 ^ 32 + w + 1) ^ e) × (w < 2 ^ 32)

-- n words, each for the prime at its place
abbrev pub RootsOf : (e n : ℕ) → List ℕ → Type 0
RootsOf e n ws = AllZip (FirstBits e) (take n primes) ws
