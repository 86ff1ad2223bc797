-- One turn of each loop, in one lane: a word more of a block, a word more of the schedule, a round more. Each is the turn of the loop for one block, with what a lane of a list of vectors is.
use Rattle.std.proofs.Common.{◌≡◌, ℕ, ◌+◌, ◌<◌, List, [], ◌∷◌, take, length, slice_index, slice_index_or, slice_set, replicate, sym, ap, ◌∙◌, arith}
use Rattle.std.proofs.lemmas.List.{length-map, get_or-map, map-set}
use Rattle.std.proofs.lemmas.Simd.{get_or-replicate}
use Rattle.compression.proofs.Steps.{word_more, scheduled_more, round_more}
use Rattle.compression.specs.Fips180.{K, plus, words, word_after, schedule, round, rounds}
use Rattle.lanes.specs.Lane.{lane_of, word_at}

pub long_lane : (w : List (List ℕ)) (j : ℕ) → length w ≡ 64 → length (lane_of j w) ≡ 64
long_lane w j long = length-map w (λ v. slice_index v j) ∙ long

pub read_lane : (w : List (List ℕ)) (i j : ℕ) → i < length w → slice_index (lane_of j w) i ≡ slice_index (slice_index_or w i []) j
read_lane w i j here = get_or-map (λ v. slice_index v j) w i [] 0 here

pub set_lane : (w : List (List ℕ)) (i j : ℕ) (v : List ℕ) → lane_of j (slice_set w i v) ≡ slice_set (lane_of j w) i (slice_index v j)
set_lane w i j v = map-set (λ v. slice_index v j) w i v

pub word_more_lane : (b : List ℕ) (w : List (List ℕ)) (v : List ℕ) (n j : ℕ) → length w ≡ 64 → n < 16
    → slice_index v j ≡ word_at n b → take n (lane_of j w) ≡ words n b → take (n + 1) (lane_of j (slice_set w n v)) ≡ words (n + 1) b
word_more_lane b w v n j long few is e =
    ap (take (n + 1)) (set_lane w n j v) ∙ (word_more b (lane_of j w) n (slice_index v j) (long_lane w j long) few e is).1

pub scheduled_more_lane : (b : List ℕ) (w : List (List ℕ)) (v : List ℕ) (n j : ℕ) → length w ≡ 64 → n < 48
    → slice_index v j
    ≡ word_after (slice_index (slice_index_or w n []) j) (slice_index (slice_index_or w (n + 1) []) j) (slice_index (slice_index_or w (n + 9) []) j) (slice_index (slice_index_or w (n + 14) []) j)
    → take (n + 16) (lane_of j w) ≡ schedule n b → take (n + 1 + 16) (lane_of j (slice_set w (n + 16) v)) ≡ schedule (n + 1) b
scheduled_more_lane b w v n j long few is e =
    let r16 = read_lane w n j (omega arith) in
    let r15 = read_lane w (n + 1) j (omega arith) in
    let r7 = read_lane w (n + 9) j (omega arith) in
    let r2 = read_lane w (n + 14) j (omega arith) in
    ap (take (n + 1 + 16)) (set_lane w (n + 16) j v)
    ∙ scheduled_more b (lane_of j w) n (slice_index v j) (long_lane w j long) few (is ∙ rw (r16, r15, r7, r2)) e

pub round_more_lane : (w : List (List ℕ)) (v s r : List ℕ) (t u j : ℕ) → t < length w → u ≡ t + 1
    → r ≡ round (slice_index K t) (slice_index (slice_index_or w t []) j) s → s ≡ rounds t (lane_of j w) v → r ≡ rounds u (lane_of j w) v
round_more_lane w v s r t u j here next is e =
    round_more (lane_of j w) v s r t u next (is ∙ ap (λ x. round (slice_index K t) x s) (sym (read_lane w t j here))) e

-- the word and the constant may be added first
pub sum_first : (x k w : ℕ) → plus x (plus w k) ≡ plus (plus x k) w
sum_first x k w = omega arith

-- a round makes two of the words, and moves the others
pub moved : {x x′ y y′ a b c e f g : ℕ} → x ≡ x′ → y ≡ y′ → (x ∷ a ∷ b ∷ c ∷ y ∷ e ∷ f ∷ g ∷ []) ≡ (x′ ∷ a ∷ b ∷ c ∷ y′ ∷ e ∷ f ∷ g ∷ [])
moved p q = cc

-- the same with one schedule for all lanes
pub round_more_alike : (W v s r : List ℕ) (t u j : ℕ) → j < 8 → u ≡ t + 1
    → r ≡ round (slice_index K t) (slice_index (replicate 8 (slice_index W t)) j) s → s ≡ rounds t W v → r ≡ rounds u W v
round_more_alike W v s r t u j lt next is e =
    round_more W v s r t u next (is ∙ ap (λ x. round (slice_index K t) x s) (get_or-replicate 8 j (slice_index W t) 0 lt)) e
