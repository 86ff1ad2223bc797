-- One turn of each loop: a word more of a block, a word more of the schedule, a round more.
use Rattle.std.proofs.Common.{◌≡◌, ℕ, ◌+◌, ◌*◌, ◌<◌, List, [], ◌∷◌, ◌++◌, length, take, slice_index, slice_set, refl, sym, ap, ◌∙◌, add-one, length-set, arith}
use Rattle.std.proofs.lemmas.List.{take_more_set, get_or-take}
use Rattle.std.specs.Int.{w32, from_be_bytes}
use Rattle.compression.specs.Fips180.{K, words, word_after, schedule, round, rounds}

-- what is written behind a front that is done
more : (w : List ℕ) (n v : ℕ) (front : List ℕ) → length w ≡ 64 → n < 64 → take n w ≡ front → (length (slice_set w n v) ≡ 64) × (take (n + 1) (slice_set w n v) ≡ front ++ (v ∷ []))
more w n v front long here e =
    let in_w : n < length w = omega arith in
    (simp length-set long, take_more_set w n v in_w ∙ ap (λ (xs : List ℕ). xs ++ (v ∷ [])) e)

pub word_more : (b w : List ℕ) (n v : ℕ) → length w ≡ 64 → n < 16 → take n w ≡ words n b
    → v ≡ from_be_bytes w32 (slice_index b (4 * n) ∷ slice_index b (4 * n + 1) ∷ slice_index b (4 * n + 2) ∷ slice_index b (4 * n + 3) ∷ [])
    → (length (slice_set w n v) ≡ 64) × (take (n + 1) (slice_set w n v) ≡ words (n + 1) b)
unfolding words
word_more b w n v long few e is =
    let next : words (n + 1) b ≡ words n b ++ (v ∷ []) = rw (add-one, is) refl in
    let m = more w n v (words n b) long (omega arith) e in
    (m.0, m.1 ∙ sym next)

-- the words that the next one is made of stand in the part that is written
pub scheduled_more : (b w : List ℕ) (n v : ℕ) → length w ≡ 64 → n < 48
    → v ≡ word_after (slice_index w n) (slice_index w (n + 1)) (slice_index w (n + 9)) (slice_index w (n + 14))
    → take (n + 16) w ≡ schedule n b → take (n + 1 + 16) (slice_set w (n + 16) v) ≡ schedule (n + 1) b
unfolding schedule
scheduled_more b w n v long few is e =
    let read : (i : ℕ) → i < n + 16 → slice_index w i ≡ slice_index (schedule n b) i =
    λ i h. sym (get_or-take (n + 16) w i 0 h) ∙ ap (λ (xs : List ℕ). slice_index xs i) e in
    let W = schedule n b in
    let word : v ≡ word_after (slice_index W n) (slice_index W (n + 1)) (slice_index W (n + 9)) (slice_index W (n + 14)) =
    is ∙ rw (read n (omega arith), read (n + 1) (omega arith), read (n + 9) (omega arith), read (n + 14) (omega arith)) refl in
    let next : schedule (n + 1) b ≡ schedule n b ++ (v ∷ []) = rw (add-one, word) refl in
    let at : n + 1 + 16 ≡ n + 16 + 1 = omega arith in
    let m = more w (n + 16) v (schedule n b) long (omega arith) e in
    ap (λ k. take k (slice_set w (n + 16) v)) at ∙ m.1 ∙ sym next

-- the round at t, where the working variables are those after t rounds
pub round_more : (W s v r : List ℕ) (t u : ℕ) → u ≡ t + 1 → r ≡ round (slice_index K t) (slice_index W t) v → v ≡ rounds t W s → r ≡ rounds u W s
unfolding rounds
round_more W s v r t u next is e = rw (next, add-one) (is ∙ ap (round (slice_index K t) (slice_index W t)) e)
