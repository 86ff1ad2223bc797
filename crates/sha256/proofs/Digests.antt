-- What SHA-256 gives is thirty-two bytes; so the hash of a row is below 2^256, and rows with one hash have one digest.
use Rattle.std.proofs.Common.{◌≡◌, ℕ, zero, suc, ◌*◌, ◌/◌, ◌<◌, List, [], ◌∷◌, length, get_or, sym, refl, ap, ◌∙◌, arith}
use Rattle.std.specs.Int.{w32, to_be_bytes}
use Rattle.std.specs.List.{flat_map}
use Rattle.hash.proofs.Numbers.{worth_small, bytes_told}
use Rattle.compression.specs.Fips180.{padded, compressed, hash_after, sha256}
use Rattle.sha256.specs.Laws.{GivesDigests, HashBelow, HashTells}
use Rattle.sha256.specs.Rows.{row_bytes, row_hash}

-- the bytes of words
length-words : (ws : List ℕ) → length (flat_map (to_be_bytes w32) ws) ≡ 4 * length ws
length-words [] = refl
length-words (w ∷ ws) = omega (arith, length-words ws)

words_small : (ws : List ℕ) (i : ℕ) → get_or (flat_map (to_be_bytes w32) ws) i 0 < 256
words_small [] i = omega arith
words_small (w ∷ ws) zero = omega arith
words_small (w ∷ ws) (suc zero) = omega arith
words_small (w ∷ ws) (suc (suc zero)) = omega arith
words_small (w ∷ ws) (suc (suc (suc zero))) = omega arith
words_small (w ∷ ws) (suc (suc (suc (suc i)))) = words_small ws i

-- a hash value is eight words
length-hash_after : (n : ℕ) (m : List ℕ) → length (hash_after n m) ≡ 8
unfolding hash_after compressed
length-hash_after zero m = refl
length-hash_after (suc n) m = refl

pub gives_digests_lem : GivesDigests
unfolding sha256
gives_digests_lem m =
    let ws = hash_after (length (padded m) / 64) (padded m) in
    let eight = length-hash_after (length (padded m) / 64) (padded m) in
    (length-words ws ∙ ap (λ (n : ℕ). 4 * n) eight, words_small ws)

pub hash_below_lem : HashBelow
unfolding row_hash
hash_below_lem xs =
    let d = gives_digests_lem (row_bytes xs) in rw d.0 at (worth_small (sha256 (row_bytes xs)) d.1)

pub hash_tells_lem : HashTells
unfolding row_hash
hash_tells_lem xs ys e =
    let d = gives_digests_lem (row_bytes xs) in
    let f = gives_digests_lem (row_bytes ys) in
    bytes_told _ _ (d.0 ∙ sym f.0) d.1 f.1 e
