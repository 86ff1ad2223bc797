-- The numbers for the bits before this one are chosen.
use Rattle.std.proofs.Common.{◌≡◌, ℕ, Bool, false, true, length, map, take}
use Rattle.std.specs.List.{range_with_len}
use Rattle.hash.specs.Value.{value_of}
use Rattle.signatures.specs.Signatures.{each_from}
use Rattle.signatures.proofs.signing.chosen.Given as goal

abbrev pub invariant-loop-k : goal.invariant-loop-k
invariant-loop-k l =
    (length l.numbers ≡ 8)
    × ((number : ℕ → Bool → ℕ) (first : ℕ) → map value_of l.unset ≡ map (λ j. number j false) (range_with_len first 8) →
    map value_of l.set ≡ map (λ j. number j true) (range_with_len first 8) → map value_of (take l.k l.numbers) ≡ each_from number first (take l.k l.bits))
