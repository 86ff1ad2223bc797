-- The bytes of a row tell its numbers.
use Rattle.std.proofs.Common.{◌≡◌, ℕ, ◌%◌, ◌^◌, List, [], ◌∷◌, map, length, sym, refl, ap, ◌∙◌, mod-eq_of_lt, inl, inr}
use Rattle.hash.specs.Value.{worth, bytes_of}
use Rattle.hash.proofs.Joined.{told_by_pieces}
use Rattle.hash.proofs.Numbers.{length-bytes, worth-bytes}
use Rattle.sha256.specs.Rows.{row_bytes, BoundedRow, BytesTell}

pub length-bytes_of : (x : ℕ) → length (bytes_of x) ≡ 32
unfolding bytes_of
length-bytes_of x = length-bytes 32 x

-- what is left of a number in thirty-two bytes
abbrev pub rest : ℕ → ℕ
rest x = x % 2 ^ 256

bytes_of_told : (x y : ℕ) → bytes_of x ≡ bytes_of y → rest x ≡ rest y
unfolding bytes_of
bytes_of_told x y e = sym (worth-bytes 32 x) ∙ (ap worth e ∙ worth-bytes 32 y)

-- of any numbers the bytes tell what is left of each
pub rests_told : (xs ys : List ℕ) → row_bytes xs ≡ row_bytes ys → map rest xs ≡ map rest ys
rests_told xs ys e = told_by_pieces bytes_of rest 31 length-bytes_of bytes_of_told xs ys e

-- and all of each that is small enough
rests : (xs : List ℕ) → BoundedRow xs → map rest xs ≡ xs
rests [] b = refl
rests (x ∷ xs) b =
    let head : rest x ≡ x = mod-eq_of_lt (b x (inl refl)) in
    let more = rests xs (λ y i. b y (inr i)) in
    cc

pub bytes_tell_lem : BytesTell
bytes_tell_lem xs ys b c e = sym (rests xs b) ∙ (rests_told xs ys e ∙ rests ys c)
