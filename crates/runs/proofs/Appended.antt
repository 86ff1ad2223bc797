-- What writers take, one write after the other.
use Rattle.std.proofs.Common.{◌≡◌, ℕ, zero, suc, inl, inr, List, [], ◌++◌, take, None, Some, Ok, Err, Option, Result, IsErr, OnOk, sym, refl, ap, ◌∙◌, subst, append_assoc, append-nil}
use Rattle.std.specs.Io.KnownBytes.{Appends, Keeps, WriteAppends}
use Rattle.runs.specs.Runs.{Gone, AppendsFront}

pub appends_nothing : (a : Option (List ℕ)) → Appends a a []
appends_nothing None = tt
appends_nothing (Some xs) = sym (append-nil xs)

pub appends_both : (a b c : Option (List ℕ)) (xs ys : List ℕ) → Appends a b xs → Appends b c ys → Appends a c (xs ++ ys)
appends_both None b c xs ys p q = tt
appends_both (Some x) None c xs ys p q = absurd p
appends_both (Some x) (Some y) None xs ys p q = absurd q
appends_both (Some x) (Some y) (Some z) xs ys p q = q ∙ (ap (λ (l : List ℕ). l ++ ys) p ∙ append_assoc x xs ys)

pub front_none : (a : Option (List ℕ)) (bytes : List ℕ) → AppendsFront a a bytes bytes
front_none a bytes = ([], refl, appends_nothing a)

pub front_more : (a b c : Option (List ℕ)) (bytes left left₁ : List ℕ) → AppendsFront a b bytes left → AppendsFront b c left left₁ → AppendsFront a c bytes left₁
front_more a b c bytes left left₁ (xs, e, p) (ys, d, q) =
    (xs ++ ys, e ∙ (ap (λ (l : List ℕ). xs ++ l) d ∙ sym (append_assoc xs ys left₁)), appends_both a b c xs ys p q)

keeps_nothing : (a b : Option (List ℕ)) → Keeps a b → Appends a b []
keeps_nothing None b k = tt
keeps_nothing (Some xs) None k = absurd k
keeps_nothing (Some xs) (Some ys) k = k ∙ sym (append-nil xs)

same_Ok : {E : Type 0} {j k : ℕ} (w : Result ℕ E) → w ≡ Ok j → w ≡ Ok k → j ≡ k
same_Ok w d e = cc

-- what is gone was taken
pub gone_taken : {E : Type 0} (i z : E → Type 0) (a b : Option (List ℕ)) (bytes : List ℕ) (w : Result ℕ E) (k : ℕ) → WriteAppends a b w bytes → Gone i z w (Ok k) → Appends a b (take k bytes)
gone_taken i z a b bytes (Ok zero) k p g = absurd g
gone_taken i z a b bytes (Ok (suc n)) k p g = subst (λ (j : ℕ). Appends a b (take j bytes)) (sym (same_Ok (Ok k) refl g)) p
gone_taken i z a b bytes (Err e) k p (inl (is, g)) = subst (λ (j : ℕ). Appends a b (take j bytes)) (sym (same_Ok (Ok k) refl g)) (keeps_nothing a b p)
gone_taken i z a b bytes (Err e) k p (inr (other, g)) = absurd cc

-- what failed need not say what an answer says that went well
pub err_of : {T E : Type 0} (P : Type 0) (r : Result T E) → IsErr r → OnOk r P
err_of P (Ok x) e = absurd cc
err_of P (Err x) e = tt
