-- Lists that are joined end to end: their parts are told by the whole where it is known how long they are.
use Rattle.std.proofs.Common.{◌≡◌, ℕ, suc, List, [], ◌∷◌, ◌++◌, map, length, sym, refl, ap, ◌∙◌, arith}
use Rattle.std.specs.List.{flat_map}
use Rattle.std.proofs.lemmas.List.{length-append}

pub same_parts : {A : Type 0} (xs ps ys qs : List A) → length xs ≡ length ys → xs ++ ps ≡ ys ++ qs → (xs ≡ ys) × (ps ≡ qs)
same_parts [] ps [] qs l e = (refl, e)
same_parts [] ps (y ∷ ys) qs l e = absurd (omega arith)
same_parts (x ∷ xs) ps [] qs l e = absurd (omega arith)
same_parts (x ∷ xs) ps (y ∷ ys) qs l e = let r = same_parts xs ps ys qs (omega arith) cc in (cc, r.1)

-- what each of many pieces tells of what it is made of, the whole tells of all; here they are all as long, and none is empty
pub told_by_pieces : {X Y A : Type 0} (f : X → List A) (g : X → Y) (n : ℕ) → ((x : X) → length (f x) ≡ suc n) → ((x y : X) → f x ≡ f y → g x ≡ g y) →
    (xs ys : List X) → flat_map f xs ≡ flat_map f ys → map g xs ≡ map g ys
told_by_pieces f g n long told [] [] e = refl
told_by_pieces f g n long told [] (y ∷ ys) e = absurd (omega (arith, ap length e, length-append (f y) (flat_map f ys), long y))
told_by_pieces f g n long told (x ∷ xs) [] e = absurd (omega (arith, ap length e, length-append (f x) (flat_map f xs), long x))
told_by_pieces f g n long told (x ∷ xs) (y ∷ ys) e =
    let r = same_parts (f x) (flat_map f xs) (f y) (flat_map f ys) (long x ∙ sym (long y)) e in
    let head = told x y r.0 in
    let rest = told_by_pieces f g n long told xs ys r.1 in
    cc
