-- Two rows that differ and hash to the same, as two byte strings.
use Rattle.std.proofs.Common.{◌≡◌, ℕ, suc, ◌^◌, ◌<◌, ◌≤◌, Bool, ◌⊎◌, List, [], ◌∷◌, get_or, sym, refl, ap, ◌∙◌, subst, inl, inr, mod-eq_of_lt, arith}
use Rattle.hash.specs.Members.{In}
use Rattle.sha256.specs.Rows.{row_bytes, row_hash, BoundedRow}
use Rattle.sha256.proofs.Digests.{hash_tells_lem}
use Rattle.sha256.proofs.Encoding.{rest, rests_told, bytes_tell_lem}
use Rattle.keys.specs.Keys.{bit, secret_row, secret}
use Rattle.keys.specs.Limits.{max_levels}
use Rattle.tree.specs.Tree.{power}
use Rattle.tree.proofs.Powers.{few_keys}
use Rattle.signatures.specs.Rows.{OwnRow, looked_rows, CollisionOf, LocatedCollision}
use Rattle.signatures.specs.Signatures.{Signature, numbers, signed}
use Rattle.signatures.proofs.Each.{each_at}
use Rattle.signatures.proofs.Forgeries.{own_or_located_lem}
use Rattle.signer.specs.Promises.{Own}
use Rattle.signer.specs.Runs.{Issued, given}
use Rattle.signer.proofs.Know.{must_know_located_lem}
use Rattle.signer.proofs.Runs.{given_within}
use Rattle.digests.specs.Digests.{BytesOf, TwoStrings, LocatedStrings}
use Rattle.digests.specs.Promises.{OwnOrStrings, MustKnowStrings}
use Rattle.digests.proofs.Plain.{Plain, bit_small, own_plain, looked_plain}

-- the bytes of rows of A and of B tell the rows
abbrev Tell : (A B : List ℕ → Type 0) → Type 0
Tell A B = (a b : List ℕ) → A a → B b → row_bytes a ≡ row_bytes b → a ≡ b

strings : (A B : List ℕ → Type 0) → Tell A B → CollisionOf row_hash A B → TwoStrings (BytesOf A) (BytesOf B)
strings A B tell c =
    (row_bytes c.0, row_bytes c.1, (c.0, c.2, refl), (c.1, c.3, refl), λ e. c.4 (tell c.0 c.1 c.2 c.3 e), hash_tells_lem c.0 c.1 c.5)

-- a row that begins with a number above 0 has not the bytes of a secret number's
not_secret : (a : List ℕ) (s i j : ℕ) (b : Bool) → Plain a → row_bytes a ≡ row_bytes (secret_row s i j b) → ⊥
not_secret a s i j b p e =
    let t = p.1.0 in
    let same = rests_told (suc t ∷ p.1.1) (secret_row s i j b) (ap row_bytes (sym p.1.2) ∙ e) in
    let first : rest (suc t) ≡ rest 0 = cc in
    let small : suc t < 2 ^ 256 = p.0 (suc t) (subst (λ (r : List ℕ). In (suc t) r) (sym p.1.2) (inl refl)) in
    let all : rest (suc t) ≡ suc t = mod-eq_of_lt small in
    omega (arith, first, all)

-- the bytes of the rows of two secret numbers tell which they are
secrets_told : (s i j k o : ℕ) (b c : Bool) → i < 2 ^ 256 → j < 2 ^ 256 → k < 2 ^ 256 → o < 2 ^ 256 →
    row_bytes (secret_row s i j b) ≡ row_bytes (secret_row s k o c) → secret_row s i j b ≡ secret_row s k o c
secrets_told s i j k o b c u v w x e =
    let same = rests_told (secret_row s i j b) (secret_row s k o c) e in
    let key_i : rest i ≡ i = mod-eq_of_lt u in
    let bit_j : rest j ≡ j = mod-eq_of_lt v in
    let key_k : rest k ≡ k = mod-eq_of_lt w in
    let bit_o : rest o ≡ o = mod-eq_of_lt x in
    let bit_b : rest (bit b) ≡ bit b = mod-eq_of_lt (bit_small b) in
    let bit_c : rest (bit c) ≡ bit c = mod-eq_of_lt (bit_small c) in
    let keys : i ≡ k = cc in
    let bits : j ≡ o = cc in
    let sides : bit b ≡ bit c = cc in
    cc

plain_tell : (n s l : ℕ) (a b : List ℕ) → Plain a → OwnRow row_hash n s l b → row_bytes a ≡ row_bytes b → a ≡ b
plain_tell n s l a b p own e =
    elim (own_plain n s l b own) [
      | inl q ↦ bytes_tell_lem a b p.0 q.0 e
      | inr q ↦ absurd (not_secret a s q.0 q.1 q.2 p (e ∙ ap row_bytes q.5))
    ]

looked_tell : (n s l : ℕ) (bs : List Bool) (g : Signature) → BoundedRow (numbers g) → Tell (λ r. In r (looked_rows row_hash bs g)) (OwnRow row_hash n s l)
looked_tell n s l bs g small a b i own e = plain_tell n s l a b (looked_plain bs g a small i) own e

own_tell : (n s l : ℕ) → power l ≤ 2 ^ 256 → n ≤ 2 ^ 256 → Tell (OwnRow row_hash n s l) (OwnRow row_hash n s l)
own_tell n s l keys bits a b x y e =
    elim (own_plain n s l a x) [
      | inl p ↦ plain_tell n s l a b p y e
      | inr p ↦
          elim (own_plain n s l b y) [
            | inl q ↦ absurd (not_secret b s p.0 p.1 p.2 q (sym e ∙ ap row_bytes p.5))
            | inr q ↦
                let f = ap row_bytes (sym p.5) ∙ (e ∙ ap row_bytes q.5) in
                let same = secrets_told s p.0 p.1 q.0 q.1 p.2 q.2 (omega (arith, p.3)) (omega (arith, p.4)) (omega (arith, q.3)) (omega (arith, q.4)) f in
                p.5 ∙ (same ∙ sym q.5)
          ]
    ]

-- the signer's own or two such rows, as its own or two such byte strings
pub as_strings : (s l n k : ℕ) (bs : List Bool) (g : Signature) → BoundedRow (numbers g) → Own row_hash s l n k bs g ⊎ LocatedCollision row_hash n s l bs g →
    Own row_hash s l n k bs g ⊎ LocatedStrings n s l bs g
as_strings s l n k bs g small (inl o) = inl o
as_strings s l n k bs g small (inr c) = inr (strings _ _ (looked_tell n s l bs g small) c)

pub own_or_strings_lem : OwnOrStrings
own_or_strings_lem s l n k bs g small acc = as_strings s l n k bs g small (own_or_located_lem row_hash s l n k bs g acc)

-- rows of two sorts as byte strings of two sorts
either : (A B : List ℕ → Type 0) (a : List ℕ) → BytesOf (λ r. A r ⊎ B r) a → BytesOf A a ⊎ BytesOf B a
either A B a r = elim r.1 [ inl x ↦ inl (r.0, x, r.2) | inr y ↦ inr (r.0, y, r.2) ]

some_given : (gs : List Issued) → ((a : Issued) × In a gs) ⊎ ((a : Issued) → In a gs → ⊥)
some_given [] = inr (λ a i. i)
some_given (a ∷ gs) = inl (a, inl refl)

-- where something was given, the tree and the bits are within the limits; and where nothing was, every secret number will do
pub must_know_strings_lem : MustKnowStrings
unfolding signed
must_know_strings_lem s l n k m qs bs g small o all acc not_given =
    let A = λ (r : List ℕ). In r (looked_rows row_hash bs g) in
    let B = OwnRow row_hash n s l in
    elim (some_given (given m qs)) [
      | inl f ↦
          let within = given_within m qs f.0 f.1 in
          let tree = all f.0 f.1 in
          let few : power l ≤ 2 ^ max_levels = rw tree.0 at (few_keys f.0.request.levels within.0) in
          let key_numbers : power l ≤ 2 ^ 256 = omega (arith, few) in
          let bit_numbers : n ≤ 2 ^ 256 = omega (arith, within.1, tree.1) in
          elim (must_know_located_lem row_hash s l n k m qs bs g o all acc not_given) [
            | inl r ↦ inl r
            | inr c ↦
                let t = strings (λ r. A r ⊎ B r) B (λ a b x y e. elim x [ inl i ↦ looked_tell n s l bs g small a b i y e | inr z ↦ own_tell n s l key_numbers bit_numbers a b z y e ]) c in
                inr (t.0, t.1, either A B t.0 t.2, t.3, t.4, t.5)
          ]
      | inr none ↦
          elim (own_or_strings_lem s l n k bs g small acc) [
            | inl w ↦
                let own = ap (λ (y : Signature). get_or y.parts 0 0) w.2 ∙ each_at (secret row_hash s g.key) 0 bs 0 (omega (arith, w.0)) in
                inl (0, o, own, λ a i v. none a i)
            | inr c ↦ inr (c.0, c.1, inl c.2, c.3, c.4, c.5)
          ]
    ]
