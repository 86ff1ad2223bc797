-- Rows of numbers that thirty-two bytes can hold.
use Rattle.std.proofs.Common.{ℕ, ◌^◌, ◌<◌, List, [], ◌∷◌, ◌++◌, map, sym, subst, inl, inr}
use Rattle.hash.specs.Value.{value_of}
use Rattle.hash.specs.declared.number.Number.{Number}
use Rattle.hash.proofs.Members.{In-append, In_left, In_right, from_map}
use Rattle.hash.proofs.Numbers.{bounded}
use Rattle.sha256.specs.Rows.{BoundedRow}

pub BoundedRow-nil : BoundedRow []
BoundedRow-nil x i = absurd i

pub BoundedRow-cons : (x : ℕ) (xs : List ℕ) → x < 2 ^ 256 → BoundedRow xs → BoundedRow (x ∷ xs)
BoundedRow-cons x xs small b y (inl e) = subst (λ (z : ℕ). z < 2 ^ 256) (sym e) small
BoundedRow-cons x xs small b y (inr i) = b y i

pub BoundedRow-append : (xs ys : List ℕ) → BoundedRow xs → BoundedRow ys → BoundedRow (xs ++ ys)
BoundedRow-append xs ys b c x i = elim (In-append x xs ys i) [ inl j ↦ b x j | inr j ↦ c x j ]

pub Bounded_left : (xs ys : List ℕ) → BoundedRow (xs ++ ys) → BoundedRow xs
Bounded_left xs ys b x i = b x (In_left x xs ys i)

pub Bounded_right : (xs ys : List ℕ) → BoundedRow (xs ++ ys) → BoundedRow ys
Bounded_right xs ys b x i = b x (In_right x xs ys i)

-- what numbers of the program mean
pub values_bounded : (ns : List Number) → BoundedRow (map value_of ns)
values_bounded ns x i = let n = from_map value_of x ns i in subst (λ (y : ℕ). y < 2 ^ 256) (sym n.2) (bounded n.0)
