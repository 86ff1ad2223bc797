-- Four bytes of a store that are overwritten.
use Rattle.std.proofs.Common.{◌≡◌, ℕ, zero, suc, ◌+◌, ◌*◌, ◌<◌, List, [], ◌∷◌, ◌++◌, length, slice_set, refl, ap, arith}
use Rattle.std.specs.Int.{w32, to_be_bytes}
use Rattle.store_files.specs.Format.{file_bytes, overwritten}

four_more : (p : ℕ) → 4 * suc p ≡ suc (suc (suc (suc (4 * p))))
four_more p = omega arith

four_less : (p n : ℕ) → suc (suc (suc (suc (4 * p)))) + n ≡ suc (suc (suc (suc (4 * p + n))))
four_less p n = omega arith

pub one_number : (m : List ℕ) (p v : ℕ) → p < length m → overwritten (file_bytes m) (4 * p) (to_be_bytes w32 v) ≡ file_bytes (slice_set m p v)
one_number [] p v l = absurd (omega (arith, l))
one_number (x ∷ m) zero v l = refl
one_number (x ∷ m) (suc p) v l =
    rw (four_more p, four_less p (length (to_be_bytes w32 v))) (ap (λ (bs : List ℕ). to_be_bytes w32 x ++ bs) (one_number m p v (omega (arith, l))))
