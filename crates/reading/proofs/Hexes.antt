-- Bytes in sixteens: how long they are, which digit stands where, and one byte more.
use Rattle.std.proofs.Common.{◌≡◌, ℕ, zero, suc, ◌+◌, ◌*◌, ◌/◌, ◌%◌, ◌<◌, List, [], ◌∷◌, ◌++◌, length, get_or, take, drop, set, sym, refl, ap, ◌∙◌, arith}
use Rattle.std.specs.Simd.{first_chunks}
use Rattle.std.proofs.lemmas.List.{append_assoc, get_or-drop, get_or-take, take_more, take_more_set}
use Rattle.hash.specs.Hex.{hex_digit, hex_byte, hex}

pub length-hex : (bs : List ℕ) → length (hex bs) ≡ 2 * length bs
length-hex [] = refl
length-hex (b ∷ bs) = omega (arith, length-hex bs)

pub hex_high : (bs : List ℕ) (i : ℕ) → i < length bs → get_or (hex bs) (2 * i) 0 ≡ hex_digit (get_or bs i 0 / 16)
hex_high [] i h = absurd (omega arith)
hex_high (b ∷ bs) zero h = refl
hex_high (b ∷ bs) (suc i) h = let e : 2 * suc i ≡ suc (suc (2 * i)) = omega arith in ap (λ (k : ℕ). get_or (hex (b ∷ bs)) k 0) e ∙ hex_high bs i (omega arith)

pub hex_low : (bs : List ℕ) (i : ℕ) → i < length bs → get_or (hex bs) (2 * i + 1) 0 ≡ hex_digit (get_or bs i 0 % 16)
hex_low [] i h = absurd (omega arith)
hex_low (b ∷ bs) zero h = refl
hex_low (b ∷ bs) (suc i) h =
    let e : 2 * suc i + 1 ≡ suc (suc (2 * i + 1)) = omega arith in ap (λ (k : ℕ). get_or (hex (b ∷ bs)) k 0) e ∙ hex_low bs i (omega arith)

hex_push : (bs : List ℕ) (b : ℕ) → hex (bs ++ (b ∷ [])) ≡ hex bs ++ hex_byte b
hex_push [] b = refl
hex_push (x ∷ bs) b = ap (λ (r : List ℕ). hex_byte x ++ r) (hex_push bs b) ∙ sym (append_assoc (hex_byte x) (hex bs) (hex_byte b))

pub read_more : (cs bs : List ℕ) (i p q : ℕ) → i < length bs → 2 * i + 1 < length cs → q < 16 → get_or cs (2 * i) 0 ≡ hex_digit p → get_or cs (2 * i + 1) 0 ≡ hex_digit q →
    take (2 * i) cs ≡ hex (take i bs) → take (2 * (i + 1)) cs ≡ hex (take (i + 1) (set bs i (p * 16 + q)))
read_more cs bs i p q hb hc small eh el so_far =
    let b = p * 16 + q in
    let two : 2 * (i + 1) ≡ (2 * i + 1) + 1 = omega arith in
    let front = take_more cs (2 * i) 0 (omega arith) in
    let both = take_more cs (2 * i + 1) 0 hc in
    let high : hex_digit p ≡ hex_digit (b / 16) = ap hex_digit (omega arith) in
    let low : hex_digit q ≡ hex_digit (b % 16) = ap hex_digit (omega arith) in
    let left : take (2 * (i + 1)) cs ≡ (hex (take i bs) ++ (hex_digit p ∷ [])) ++ (hex_digit q ∷ []) = ap (λ (k : ℕ). take k cs) two ∙ (both ∙ cc) in
    let right : hex (take (i + 1) (set bs i b)) ≡ hex (take i bs) ++ hex_byte b = ap hex (take_more_set bs i b hb) ∙ hex_push (take i bs) b in
    left ∙ (append_assoc (hex (take i bs)) (hex_digit p ∷ []) (hex_digit q ∷ []) ∙ (cc))

-- a text in pairs: where a pair's digits stand
pub pair_at : (text : List ℕ) (k i j n : ℕ) → i < k → j < 2 → n ≡ 2 * i + j → get_or (get_or (first_chunks 2 k text) i []) j 0 ≡ get_or text n 0
pair_at text zero i j n h l e = absurd (omega arith)
pair_at text (suc k) zero j n h l e = get_or-take 2 text j 0 l ∙ ap (λ (m : ℕ). get_or text m 0) (omega arith)
pair_at text (suc k) (suc i) j n h l e =
    pair_at (drop 2 text) k i j (2 * i + j) (omega arith) l refl ∙ (get_or-drop 2 text (2 * i + j) 0 ∙ ap (λ (m : ℕ). get_or text m 0) (omega arith))
