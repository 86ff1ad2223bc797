-- What each of the eight lanes of a vector is, operation by operation.
use Rattle.std.proofs.Common.{◌≡◌, ℕ, ◌<◌, List, map, length, replicate, slice_index, refl, sym, ap, ◌∙◌, arith}
use Rattle.std.proofs.lemmas.List.{length-map, get_or-map}
use Rattle.std.proofs.lemmas.Simd.{length-zip2, get_or-zip2, length-replicate, get_or-replicate}
use Rattle.std.specs.Simd.Lanes.{zip2}

-- lane j of the eight is g j
pub record Is (x : List ℕ) (g : ℕ → ℕ) : Type 0 where
  pub long : length x ≡ 8
  pub at : (j : ℕ) → j < 8 → slice_index x j ≡ g j

pub same : (x : List ℕ) → length x ≡ 8 → Is x (λ j. slice_index x j)
same x long = record { long = long; at = λ j h. refl }

pub by : (x : List ℕ) (g : ℕ → ℕ) → length x ≡ 8 → ((j : ℕ) → j < 8 → slice_index x j ≡ g j) → Is x g
by x g long at = record { long = long; at = at }

pub all : (n : ℕ) → Is (replicate 8 n) (λ j. n)
all n = record { long = length-replicate 8 n; at = λ j h. get_or-replicate 8 j n 0 h }

pub one : (f : ℕ → ℕ) {x : List ℕ} {g : ℕ → ℕ} → Is x g → Is (map f x) (λ j. f (g j))
one f {x} {g} p = record {
  long = length-map x f ∙ p.long;
  at = λ j h. get_or-map f x j 0 0 (omega (arith, p.long)) ∙ ap f (p.at j h);
}

pub two : (f : ℕ → ℕ → ℕ) {x y : List ℕ} {g h : ℕ → ℕ} → Is x g → Is y h → Is (zip2 f x y) (λ j. f (g j) (h j))
two f {x} {y} {g} {h} p q = record {
  long = length-zip2 f x y (p.long ∙ sym q.long) ∙ p.long;
  at = λ j lt.
      get_or-zip2 f x y j 0 0 0 (omega (arith, p.long)) (omega (arith, q.long)) ∙ ap (λ a. f a (slice_index y j)) (p.at j lt) ∙ ap (f (g j)) (q.at j lt);
}

-- the same numbers in other words
pub so : {x : List ℕ} {g h : ℕ → ℕ} → Is x g → ((j : ℕ) → g j ≡ h j) → Is x h
so p e = record { long = p.long; at = λ j lt. p.at j lt ∙ e j }
