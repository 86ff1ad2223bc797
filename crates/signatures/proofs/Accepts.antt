-- What is accepted, test by test.
use Rattle.std.proofs.Common.{◌≡◌, ℕ, ◌<◌, Bool, true, false, eqb, ltb, List, length, sym, refl}
use Rattle.std.proofs.lemmas.Bool.{and_parts, and_left, and_right, eqb-true, ltb-true, ne_eqb, eq-eqb}
use Rattle.hash.specs.Mix.{Mix}
use Rattle.tree.specs.Tree.{power, up}
use Rattle.signatures.specs.Signatures.{Signature, leaf_row_of, accepted}

-- what an accepted signature has
pub tests : (h : Mix) (r l : ℕ) (bs : List Bool) (g : Signature) → accepted h r l bs g ≡ true →
    (g.key < power l) × (length g.parts ≡ length bs) × (length g.others ≡ length bs) × (length g.path ≡ l)
    × (up h g.path g.key (h (leaf_row_of h bs g.parts g.others)) ≡ r)
unfolding accepted
tests h r l bs g e =
    let a = and_parts (ltb g.key (power l)) _ e in
    let b = and_parts (eqb (length g.parts) (length bs)) _ a.1 in
    let c = and_parts (eqb (length g.others) (length bs)) _ b.1 in
    let d = and_parts (eqb (length g.path) l) _ c.1 in
    (ltb-true _ _ a.0, eqb-true _ _ b.0, eqb-true _ _ c.0, eqb-true _ _ d.0, eqb-true _ _ d.1)

module _ (h : Mix) (r l : ℕ) (bs : List Bool) (g : Signature) where
  -- one test that fails is enough
  pub no_by_key : ltb g.key (power l) ≡ false → false ≡ accepted h r l bs g
  unfolding accepted
  no_by_key e = sym (and_left _ _ e)

  pub no_by_parts : (length g.parts ≡ length bs → ⊥) → false ≡ accepted h r l bs g
  unfolding accepted
  no_by_parts e = sym (and_right (ltb g.key (power l)) _ (and_left _ _ (ne_eqb _ _ e)))

  pub no_by_others : (length g.others ≡ length bs → ⊥) → false ≡ accepted h r l bs g
  unfolding accepted
  no_by_others e = sym (and_right (ltb g.key (power l)) _ (and_right (eqb (length g.parts) (length bs)) _ (and_left _ _ (ne_eqb _ _ e))))

  pub no_by_path : (length g.path ≡ l → ⊥) → false ≡ accepted h r l bs g
  unfolding accepted
  no_by_path e =
      sym (and_right (ltb g.key (power l)) _ (and_right (eqb (length g.parts) (length bs)) _ (and_right (eqb (length g.others) (length bs)) _ (and_left _ _ (ne_eqb _ _ e)))))

  -- and with the others passed the root decides
  pub by_root : ltb g.key (power l) ≡ true → length g.parts ≡ length bs → length g.others ≡ length bs → length g.path ≡ l →
      eqb (up h g.path g.key (h (leaf_row_of h bs g.parts g.others))) r ≡ accepted h r l bs g
  unfolding accepted
  by_root a b c d = sym (rw (a, eq-eqb _ _ b, eq-eqb _ _ c, eq-eqb _ _ d) refl)
