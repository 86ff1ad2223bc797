-- What stands in a list, and numbers that rise.
use Rattle.std.proofs.Common.{◌≡◌, ℕ, zero, suc, ◌<◌, ◌⊎◌, List, [], ◌∷◌, ◌++◌, map, length, get_or, sym, refl, ap, ◌∙◌, subst, inl, inr, arith}
use Rattle.std.proofs.lemmas.Bool.{cases_eq}
use Rattle.hash.specs.Members.{In, Rising}

pub In_left : {A : Type 0} (x : A) (xs ys : List A) → In x xs → In x (xs ++ ys)
In_left x [] ys i = absurd i
In_left x (y ∷ xs) ys (inl e) = inl e
In_left x (y ∷ xs) ys (inr i) = inr (In_left x xs ys i)

pub In_right : {A : Type 0} (x : A) (xs ys : List A) → In x ys → In x (xs ++ ys)
In_right x [] ys i = i
In_right x (y ∷ xs) ys i = inr (In_right x xs ys i)

pub In-append : {A : Type 0} (x : A) (xs ys : List A) → In x (xs ++ ys) → In x xs ⊎ In x ys
In-append x [] ys i = inr i
In-append x (y ∷ xs) ys (inl e) = inl (inl e)
In-append x (y ∷ xs) ys (inr i) = elim (In-append x xs ys i) [ inl j ↦ inl (inr j) | inr j ↦ inr j ]

pub In-map : {A B : Type 0} (f : A → B) (x : A) (xs : List A) → In x xs → In (f x) (map f xs)
In-map f x [] i = absurd i
In-map f x (y ∷ xs) (inl e) = inl (ap f e)
In-map f x (y ∷ xs) (inr i) = inr (In-map f x xs i)

pub from_map : {A B : Type 0} (f : A → B) (y : B) (xs : List A) → In y (map f xs) → (x : A) × In x xs × (y ≡ f x)
from_map f y [] i = absurd i
from_map f y (x ∷ xs) (inl e) = (x, inl refl, e)
from_map f y (x ∷ xs) (inr i) = let r = from_map f y xs i in (r.0, inr r.1, r.2)

pub In-get_or : (xs : List ℕ) (k : ℕ) → k < length xs → In (get_or xs k 0) xs
In-get_or [] k h = absurd (omega arith)
In-get_or (x ∷ xs) zero h = inl refl
In-get_or (x ∷ xs) (suc k) h = inr (In-get_or xs k (omega arith))

-- what can be told of each element can be told of a list: some element has it, or none
pub some_or_none : {A : Type 0} (P : A → Type 0) → ((x : A) → P x ⊎ (P x → ⊥)) → (xs : List A) → ((x : A) × In x xs × P x) ⊎ ((x : A) → In x xs → P x → ⊥)
some_or_none P tell [] = inr (λ x i p. i)
some_or_none P tell (y ∷ ys) =
    elim (some_or_none P tell ys) [
      | inl f ↦ inl (f.0, inr f.1, f.2)
      | inr none ↦
          elim (tell y) [
            | inl p ↦ inl (y, inl refl, p)
            | inr q ↦ inr (λ x i p. elim i [ inl e ↦ q (subst P e p) | inr j ↦ none x j p ])
          ]
    ]

pub In_or_not : (v : ℕ) (xs : List ℕ) → In v xs ⊎ (In v xs → ⊥)
In_or_not v xs =
    elim (some_or_none (λ (x : ℕ). v ≡ x) (λ x. cases_eq v x) xs) [ inl f ↦ inl (subst (λ (x : ℕ). In x xs) (sym f.2) f.1) | inr n ↦ inr (λ i. n v i refl) ]

-- two elements whose numbers are equal are one, where the numbers rise
pub one_each : {A : Type 0} (f : A → ℕ) (xs : List A) (a b : A) → Rising (map f xs) → In a xs → In b xs → f a ≡ f b → a ≡ b
one_each f [] a b r i j e = absurd i
one_each f (x ∷ xs) a b r (inl i) (inl j) e = i ∙ sym j
one_each f (x ∷ xs) a b r (inl i) (inr j) e = let k = r.0 (f b) (In-map f b xs j) in let m = ap f i in absurd (omega arith)
one_each f (x ∷ xs) a b r (inr i) (inl j) e = let k = r.0 (f a) (In-map f a xs i) in let m = ap f j in absurd (omega arith)
one_each f (x ∷ xs) a b r (inr i) (inr j) e = one_each f xs a b r.1 i j e
