-- SHA-256, as FIPS 180-4 states it; the numbers of its sections stand beside the definitions. A byte is a number below 256, and a word one below 2^32; a message is a list of bytes, and a hash value one of eight words. Assumes nothing: these are definitions.
use Rattle.std.specs.Prelude.{ℕ, zero, suc, ◌+◌, ◌-◌, ◌*◌, ◌/◌, ◌%◌, ◌^◌, List, [], ◌∷◌, ◌++◌, map, length, take, drop, replicate, bit_and, bit_or, bit_xor, slice_index}
use Rattle.std.specs.List.{flat_map, range_with_len}
use Rattle.std.specs.Int.{w32, w64, bit_not, from_be_bytes, to_be_bytes}

-- 3.2: addition of words, and a word rotated and shifted to the right by n
abbrev pub plus : ℕ → ℕ → ℕ
plus x y = (x + y) % 2 ^ 32

abbrev pub rotr : ℕ → ℕ → ℕ
rotr n x = bit_or (x / 2 ^ n) (x * 2 ^ (32 - n) % 2 ^ 32)

abbrev pub shr : ℕ → ℕ → ℕ
shr n x = x / 2 ^ n

-- 4.1.2: the six functions of words
unfoldable pub ch : ℕ → ℕ → ℕ → ℕ
ch x y z = bit_xor (bit_and x y) (bit_and (bit_not w32 x) z)

unfoldable pub maj : ℕ → ℕ → ℕ → ℕ
maj x y z = bit_xor (bit_xor (bit_and x y) (bit_and x z)) (bit_and y z)

abbrev pub Σ₀ : ℕ → ℕ
Σ₀ x = bit_xor (bit_xor (rotr 2 x) (rotr 13 x)) (rotr 22 x)

abbrev pub Σ₁ : ℕ → ℕ
Σ₁ x = bit_xor (bit_xor (rotr 6 x) (rotr 11 x)) (rotr 25 x)

abbrev pub σ₀ : ℕ → ℕ
σ₀ x = bit_xor (bit_xor (rotr 7 x) (rotr 18 x)) (shr 3 x)

abbrev pub σ₁ : ℕ → ℕ
σ₁ x = bit_xor (bit_xor (rotr 17 x) (rotr 19 x)) (shr 10 x)

-- 4.2.2: the words of the rounds
abbrev pub K : List ℕ
K =
    0x428a2f98 ∷ 0x71374491 ∷ 0xb5c0fbcf ∷ 0xe9b5dba5 ∷ 0x3956c25b ∷ 0x59f111f1 ∷ 0x923f82a4 ∷ 0xab1c5ed5 ∷
    0xd807aa98 ∷ 0x12835b01 ∷ 0x243185be ∷ 0x550c7dc3 ∷ 0x72be5d74 ∷ 0x80deb1fe ∷ 0x9bdc06a7 ∷ 0xc19bf174 ∷
    0xe49b69c1 ∷ 0xefbe4786 ∷ 0x0fc19dc6 ∷ 0x240ca1cc ∷ 0x2de92c6f ∷ 0x4a7484aa ∷ 0x5cb0a9dc ∷ 0x76f988da ∷
    0x983e5152 ∷ 0xa831c66d ∷ 0xb00327c8 ∷ 0xbf597fc7 ∷ 0xc6e00bf3 ∷ 0xd5a79147 ∷ 0x06ca6351 ∷ 0x14292967 ∷
    0x27b70a85 ∷ 0x2e1b2138 ∷ 0x4d2c6dfc ∷ 0x53380d13 ∷ 0x650a7354 ∷ 0x766a0abb ∷ 0x81c2c92e ∷ 0x92722c85 ∷
    0xa2bfe8a1 ∷ 0xa81a664b ∷ 0xc24b8b70 ∷ 0xc76c51a3 ∷ 0xd192e819 ∷ 0xd6990624 ∷ 0xf40e3585 ∷ 0x106aa070 ∷
    0x19a4c116 ∷ 0x1e376c08 ∷ 0x2748774c ∷ 0x34b0bcb5 ∷ 0x391c0cb3 ∷ 0x4ed8aa4a ∷ 0x5b9cca4f ∷ 0x682e6ff3 ∷
    0x748f82ee ∷ 0x78a5636f ∷ 0x84c87814 ∷ 0x8cc70208 ∷ 0x90befffa ∷ 0xa4506ceb ∷ 0xbef9a3f7 ∷ 0xc67178f2 ∷ []

-- 5.3.3: the hash value that a message begins with
abbrev pub H₀ : List ℕ
H₀ = 0x6a09e667 ∷ 0xbb67ae85 ∷ 0x3c6ef372 ∷ 0xa54ff53a ∷ 0x510e527f ∷ 0x9b05688c ∷ 0x1f83d9ab ∷ 0x5be0cd19 ∷ []

-- 5.1.1: what is put behind a message of n bytes: a bit 1, zeros, and how many bits the message has, in 64 bits. The standard has messages of fewer than 2^64 bits; of a longer one the number of bits is taken modulo 2^64
abbrev pub zeros : ℕ → ℕ
zeros n = (119 - n % 64) % 64

unfoldable pub padding : ℕ → List ℕ
padding n = 0x80 ∷ replicate (zeros n) 0 ++ to_be_bytes w64 (n * 8 % 2 ^ 64)

abbrev pub padded : List ℕ → List ℕ
padded m = m ++ padding (length m)

-- 5.2.1: the first n words of a block, four bytes each, the highest first
unfoldable pub words : ℕ → List ℕ → List ℕ
words zero b = []
words (suc n) b =
    let bytes = slice_index b (4 * n) ∷ slice_index b (4 * n + 1) ∷ slice_index b (4 * n + 2) ∷ slice_index b (4 * n + 3) ∷ [] in
    words n b ++ (from_be_bytes w32 bytes ∷ [])

-- 6.2.2, 1: the message schedule: W_t for t from 16 on, from the words before it; and the sixteen words of a block with the n after them
unfoldable pub word_after : (W₁₆ W₁₅ W₇ W₂ : ℕ) → ℕ
word_after W₁₆ W₁₅ W₇ W₂ = plus (plus (plus (σ₁ W₂) W₇) (σ₀ W₁₅)) W₁₆

unfoldable pub schedule : ℕ → List ℕ → List ℕ
schedule zero b = words 16 b
schedule (suc n) b =
    let W = schedule n b in
    W ++ (word_after (slice_index W n) (slice_index W (n + 1)) (slice_index W (n + 9)) (slice_index W (n + 14)) ∷ [])

-- 6.2.2, 3: a round on the eight working variables, and the first n rounds
unfoldable pub round : (Kₜ Wₜ : ℕ) → List ℕ → List ℕ
round Kₜ Wₜ v =
    let a = slice_index v 0 in
    let b = slice_index v 1 in
    let c = slice_index v 2 in
    let d = slice_index v 3 in
    let e = slice_index v 4 in
    let f = slice_index v 5 in
    let g = slice_index v 6 in
    let h = slice_index v 7 in
    let T₁ = plus (plus (plus (plus h (Σ₁ e)) (ch e f g)) Kₜ) Wₜ in
    let T₂ = plus (Σ₀ a) (maj a b c) in
    plus T₁ T₂ ∷ a ∷ b ∷ c ∷ plus d T₁ ∷ e ∷ f ∷ g ∷ []

unfoldable pub rounds : ℕ → (W : List ℕ) → List ℕ → List ℕ
rounds zero W v = v
rounds (suc t) W v = round (slice_index K t) (slice_index W t) (rounds t W v)

-- 6.2.2, 2 to 4: the next hash value, from one and a block
abbrev pub sums : List ℕ → List ℕ → List ℕ
sums v H = map (λ i. plus (slice_index v i) (slice_index H i)) (range_with_len 0 8)

unfoldable pub compressed : List ℕ → List ℕ → List ℕ
compressed H b = sums (rounds 64 (schedule 48 b) H) H

-- 6.2.2: the hash value after the first n blocks
unfoldable pub hash_after : ℕ → List ℕ → List ℕ
hash_after zero m = H₀
hash_after (suc n) m = compressed (hash_after n m) (take 64 (drop (64 * n) m))

-- 6.2: the hash of a message: the bytes of the hash value after all its blocks
unfoldable pub sha256 : List ℕ → List ℕ
sha256 m = flat_map (to_be_bytes w32) (hash_after (length (padded m) / 64) (padded m))
