-- What one lane of vectors is. Assumes nothing: these are definitions.
use Rattle.std.specs.Prelude.{◌≡◌, ℕ, ◌+◌, ◌*◌, ◌<◌, List, [], ◌∷◌, map, slice_index, slice_index_or}
use Rattle.std.specs.List.{range_with_len}
use Rattle.std.specs.Int.{w32, from_be_bytes}
use Rattle.lanes.specs.declared.state.State.{State}

-- the hash value in lane j
abbrev pub lane : ℕ → State → List ℕ
lane j s =
    slice_index s.a j ∷ slice_index s.b j ∷ slice_index s.c j ∷ slice_index s.d j ∷
    slice_index s.e j ∷ slice_index s.f j ∷ slice_index s.g j ∷ slice_index s.h j ∷ []

-- lane j of each vector of a list
abbrev pub lane_of : ℕ → List (List ℕ) → List ℕ
lane_of j vs = map (λ v. slice_index v j) vs

-- the first eight of a list of words, as a hash value has no others
abbrev pub first_eight : List ℕ → List ℕ
first_eight v = map (slice_index v) (range_with_len 0 8)

-- word t of a block, as the definition of its words has it
abbrev pub word_at : ℕ → List ℕ → ℕ
word_at t b = from_be_bytes w32 (slice_index b (4 * t) ∷ slice_index b (4 * t + 1) ∷ slice_index b (4 * t + 2) ∷ slice_index b (4 * t + 3) ∷ [])

-- the eight blocks are all the same
abbrev pub Alike : List (List ℕ) → Type 0
Alike bs = (j : ℕ) → j < 8 → slice_index_or bs j [] ≡ slice_index_or bs 0 []
