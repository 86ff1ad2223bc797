-- From the lanes to the eight next hash values.
use Rattle.std.proofs.Common.{◌≡◌, ℕ, zero, suc, ◌<◌, List, [], map, length, slice_index, slice_index_or, refl, sym, ap, ◌∙◌, arith}
use Rattle.std.proofs.lemmas.List.{ext_get_or}
use Rattle.std.proofs.lemmas.List.FromFn.{get_or-map-range_with_len}
use Rattle.std.proofs.lemmas.Simd.{length-zip2, get_or-zip2}
use Rattle.std.specs.List.{range_with_len}
use Rattle.std.specs.Simd.Lanes.{zip2}
use Rattle.compression.specs.Fips180.{K, schedule, round, rounds, sums, compressed}
use Rattle.lanes.specs.Lane.{first_eight}

-- a round reads the first eight words of what it is given
rounds_of_eight : (n : ℕ) (W v : List ℕ) → 0 < n → rounds n W (first_eight v) ≡ rounds n W v
unfolding round rounds
rounds_of_eight zero W v some = absurd (omega arith)
rounds_of_eight (suc zero) W v some = refl
rounds_of_eight (suc (suc n)) W v some = ap (round (slice_index K (suc n)) (slice_index W (suc n))) (rounds_of_eight (suc n) W v (omega arith))

-- the parts of a compression, one after the other
pub compressed_lane : (h b s r t : List ℕ) → s ≡ first_eight h → r ≡ rounds 64 (schedule 48 b) s → t ≡ sums r s → t ≡ compressed h b
unfolding compressed
compressed_lane h b s r t eight done added =
    let W = schedule 48 b in
    added ∙ ap (sums r) eight ∙ ap (λ x. sums x h) (done ∙ ap (rounds 64 W) eight ∙ rounds_of_eight 64 W h (omega arith))

pub eight_zipped : (f : List ℕ → List ℕ → List ℕ) (g : ℕ → List ℕ) (xs ys : List (List ℕ)) → length xs ≡ 8 → length ys ≡ 8
    → ((j : ℕ) → j < 8 → g j ≡ f (slice_index_or xs j []) (slice_index_or ys j [])) → map g (range_with_len 0 8) ≡ zip2 f xs ys
eight_zipped f g xs ys xs_long ys_long each =
    let long = length-zip2 f xs ys (xs_long ∙ sym ys_long) ∙ xs_long in
    ext_get_or [] (map g (range_with_len 0 8)) (zip2 f xs ys) (sym long) (λ i h.
    let lt : i < 8 = h in
    get_or-map-range_with_len g 0 8 i i [] lt (omega arith)
    ∙ each i lt
    ∙ sym (get_or-zip2 f xs ys i [] [] [] (omega arith) (omega arith)))
