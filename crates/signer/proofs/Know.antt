-- Who shows an accepted signature that was not given has a number that was not given.
use Rattle.std.proofs.Common.{◌≡◌, ℕ, suc, ◌<◌, ◌≤◌, Bool, true, false, ◌⊎◌, List, [], ◌∷◌, length, get_or, sym, refl, ap, ◌∙◌, subst, subst₂, inl, inr, zero-add, arith}
use Rattle.std.proofs.lemmas.Bool.{cases_eq, true≢false, false≢true}
use Rattle.hash.specs.Members.{In}
use Rattle.hash.specs.Mix.{Mix}
use Rattle.hash.proofs.Members.{In-get_or, In_left, In_or_not, one_each, some_or_none}
use Rattle.keys.specs.Keys.{bit, secret}
use Rattle.tree.specs.Tree.{power, node}
use Rattle.signatures.specs.Rows.{OwnRow, own_secret, looked_rows, CollisionOf}
use Rattle.signatures.specs.Signatures.{Signature, numbers, parts_from, signed, accepted}
use Rattle.signatures.proofs.Accepts.{tests}
use Rattle.signatures.proofs.Each.{each_at, length-each}
use Rattle.signatures.proofs.Forgeries.{same_or, own_or_located_lem}
use Rattle.signatures.proofs.Numbers.{Other, number_of}
use Rattle.signer.specs.OneTree.{Asked, KeyGiven, GivenNumber, MustKnow}
use Rattle.signer.specs.Promises.{MustKnowLocated}
use Rattle.signer.specs.Runs.{Issued, given, signature_given}
use Rattle.signer.proofs.OneTree.{gathered, gathered_rise, gathers, was_given}
use Rattle.signer.proofs.Runs.{given_below, one_row_lem}

-- where two rows of bits differ
differ : (a b : List Bool) → length a ≡ length b → (a ≡ b → ⊥) → (j : ℕ) × (j < length a) × (get_or a j false ≡ get_or b j false → ⊥)
differ [] [] k n = absurd (n refl)
differ [] (y ∷ b) k n = absurd (omega arith)
differ (x ∷ a) [] k n = absurd (omega arith)
differ (true ∷ a) (true ∷ b) k n = let r = differ a b (omega arith) (λ e. n (ap (λ (z : List Bool). true ∷ z) e)) in (suc r.0, omega arith, r.2)
differ (false ∷ a) (false ∷ b) k n = let r = differ a b (omega arith) (λ e. n (ap (λ (z : List Bool). false ∷ z) e)) in (suc r.0, omega arith, r.2)
differ (true ∷ a) (false ∷ b) k n = (0, omega arith, true≢false)
differ (false ∷ a) (true ∷ b) k n = (0, omega arith, false≢true)

bit_same : (t u : Bool) → bit t ≡ bit u → t ≡ u
bit_same t u e = grind arith

-- all that was given, in whatever run: one row of bits for each key, all for one tree, and none of it for these bits by the key i
pub record Gave (l n i : ℕ) (bs : List Bool) (gs : List Issued) : Type 0 where
  pub one : (a b : Issued) → In a gs → In b gs → a.key ≡ b.key → a.request.bits ≡ b.request.bits
  pub tree : (a : Issued) → In a gs → (a.request.levels ≡ l) × (length a.request.bits ≡ n) × (a.key < power l)
  pub not : (a : Issued) → In a gs → a.key ≡ i → a.request.bits ≡ bs → ⊥

-- a place where no row given for the key has the bit that is shown
place : (l n i : ℕ) (bs : List Bool) (gs : List Issued) → 1 ≤ n → n ≡ length bs → Gave l n i bs gs →
    (j : ℕ) × (j < n) × ((a : Issued) → In a gs → a.key ≡ i → get_or bs j false ≡ get_or a.request.bits j false → ⊥)
place l n i bs gs o e v =
    elim (some_or_none (λ (a : Issued). a.key ≡ i) (λ a. cases_eq a.key i) gs) [
      | inl f ↦
          let sized = (v.tree f.0 f.1).1 in
          let d = differ bs f.0.request.bits (sym e ∙ sym sized) (λ z. v.not f.0 f.1 f.2 (sym z)) in
          (d.0, omega arith, λ a x k z. d.2 (z ∙ ap (λ (w : List Bool). get_or w d.0 false) (v.one a f.0 x f.1 (k ∙ sym f.2))))
      | inr none ↦ (0, o, λ a x k z. none a x k)
    ]

module _ (h : Mix) (s l n : ℕ) (A : List ℕ → Type 0) where
  abbrev Both : List ℕ → Type 0
  Both a = A a ⊎ OwnRow h n s l a

  -- two secret numbers are equal only as one
  secret_or : (i j : ℕ) (t : Bool) (k o : ℕ) (u : Bool) → i < power l → j < n → k < power l → o < n → secret h s i j t ≡ secret h s k o u →
      ((i ≡ k) × (j ≡ o) × (t ≡ u)) ⊎ CollisionOf h Both (OwnRow h n s l)
  unfolding secret
  secret_or i j t k o u a b c d e =
      elim (same_or h Both (OwnRow h n s l) _ _ (inr (own_secret i j t a b)) (own_secret k o u c d) e)
      [ inl y ↦ inl (cc, cc, bit_same t u (cc)) | inr z ↦ inr z ]

  -- and none is the hash of another row
  other_or : (i j : ℕ) (t : Bool) (v : ℕ) → i < power l → j < n → v ≡ secret h s i j t → Other h n s l v → CollisionOf h Both (OwnRow h n s l)
  unfolding secret
  other_or i j t v a b e o = (o.0, _, inr o.1, own_secret i j t a b, o.3 _, sym o.2 ∙ e)

-- the promise, over all that was given
pub knows : (h : Mix) (s l n k : ℕ) (gs : List Issued) (bs : List Bool) (g : Signature) → 1 ≤ n → Gave l n g.key bs gs → accepted h (node h n s l 0) k bs g ≡ true →
    ((j : ℕ) × (j < n) × (get_or g.parts j 0 ≡ secret h s g.key j (get_or bs j false))
    × ((a : Issued) → In a gs → In (get_or g.parts j 0) (numbers (signature_given h s a)) → ⊥))
    ⊎ CollisionOf h (λ r. In r (looked_rows h bs g) ⊎ OwnRow h n s l r) (OwnRow h n s l)
unfolding signed
knows h s l n k gs bs g o v acc =
    elim (own_or_located_lem h s l n k bs g acc) [
      | inl w ↦
          let p = place l n g.key bs gs o w.0 v in
          let j = p.0 in
          let number = get_or g.parts j 0 in
          let own : number ≡ secret h s g.key j (get_or bs j false) =
          ap (λ (y : Signature). get_or y.parts j 0) w.2 ∙ (rw zero-add at (each_at (secret h s g.key) 0 bs j (omega arith))) in
          let below : g.key < power l = rw w.1 at (tests h (node h n s l 0) k bs g acc).0 in
          elim (some_or_none (λ (a : Issued). In number (numbers (signature_given h s a))) (λ a. In_or_not number (numbers (signature_given h s a))) gs) [
            | inl r ↦
                let a = r.0 in
                let t = v.tree a r.1 in
                elim (number_of h n s l a.key a.request.bits number t.2 t.1 (rw t.0 at r.2)) [
                  | inl q ↦
                      elim (secret_or h s l n (λ x. In x (looked_rows h bs g)) g.key j _ a.key q.0 _ below p.1 t.2 q.1 (sym own ∙ q.2))
                      [ inl z ↦ absurd (p.2 a r.1 (sym z.0) (cc)) | inr c ↦ inr c ]
                  | inr q ↦ inr (other_or h s l n (λ x. In x (looked_rows h bs g)) g.key j _ number below p.1 own q)
                ]
            | inr none ↦ inl (j, p.1, own, none)
          ]
      | inr c ↦ inr (c.0, c.1, inl c.2, c.3, c.4, c.5)
    ]

pub must_know_located_lem : MustKnowLocated
must_know_located_lem h s l n k m qs bs g o all acc not_given =
    knows h s l n k (given m qs) bs g o
    (record {
      one = one_row_lem m qs;
      tree = λ a i. let t = all a i in (t.0, t.1, subst (λ (y : ℕ). a.key < power y) t.0 (given_below m qs a i));
      not = not_given;
    })
    acc

-- a secret number that was given stands in the signature that was given
in_given : (h : Mix) (s l : ℕ) (m : List ℕ) (xs : List Asked) (v : ℕ) → GivenNumber l h s m xs v →
    (a : Issued) × In a (gathered l m xs) × In v (numbers (signature_given h s a))
unfolding signed
in_given h s l m xs v y =
    let a = gathers l m xs y.0 y.1 y.4 in
    let parts = λ (i : ℕ) (b : List Bool). parts_from h s i 0 b in
    let e : v ≡ get_or (parts a.0.key a.0.request.bits) y.2 0 = y.5 ∙ (ap (λ (i : ℕ). get_or (parts i y.1) y.2 0) (sym a.2) ∙ ap (λ (b : List Bool). get_or (parts a.0.key b) y.2 0) (sym a.3)) in
    let same = ap (λ (b : List Bool). length b) a.3 in
    let sized = length-each (secret h s a.0.key) 0 a.0.request.bits in
    let i = In-get_or (parts a.0.key a.0.request.bits) y.2 (omega (arith, y.3)) in
    (a.0, a.1, In_left v (parts a.0.key a.0.request.bits) _ (subst (λ (x : ℕ). In x (parts a.0.key a.0.request.bits)) (sym e) i))

pub must_know_lem : MustKnow
must_know_lem h s l n m xs bs g sd o sized acc not_given =
    let gave : Gave l n g.key bs (gathered l m xs) =
    record {
      one = λ a b i j f. ap (λ (x : Issued). x.request.bits) (one_each (λ (x : Issued). x.key) (gathered l m xs) a b (gathered_rise l m xs sd) i j f);
      tree = λ a i. let w = was_given l m xs a i in (w.1, sized a.key a.request.bits w.0, w.2);
      not = λ a i k f. not_given (subst₂ (λ (x : ℕ) (y : List Bool). KeyGiven l m xs x y) k f (was_given l m xs a i).0);
    } in
    elim (knows h s l n l (gathered l m xs) bs g o gave acc) [
      | inl r ↦ inl (r.0, r.1, r.2, λ y. let w = in_given h s l m xs _ y in r.3 w.0 w.1 w.2)
      | inr c ↦ inr (c.0, c.1, c.4, c.5)
    ]
