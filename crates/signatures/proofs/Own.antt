-- What the signer signs is accepted.
use Rattle.std.proofs.Common.{◌≡◌, ℕ, suc, ◌<◌, Bool, true, false, List, [], ◌∷◌, length, sym, refl, ◌∙◌, arith}
use Rattle.std.proofs.lemmas.Bool.{eq-eqb, lt-ltb}
use Rattle.hash.specs.Mix.{Mix}
use Rattle.keys.specs.Keys.{shown_all, leaf}
use Rattle.tree.specs.Tree.{power, node, path_from, up}
use Rattle.tree.proofs.Walks.{climbs, length-path}
use Rattle.signatures.specs.Signatures.{each_from, parts_from, others_from, signed, shown_of, leaf_row_of, accepted}
use Rattle.signatures.proofs.Accepts.{by_root}
use Rattle.signatures.proofs.Each.{length-each}

-- what its signature shows is all that is shown of the key
shown_own : (h : Mix) (s i j : ℕ) (bs : List Bool) → shown_of h bs (parts_from h s i j bs) (others_from h s i j bs) ≡ shown_all h s i j (length bs)
unfolding each_from shown_of shown_all
shown_own h s i j [] = refl
shown_own h s i j (true ∷ bs) = rw (shown_own h s i (suc j) bs)
shown_own h s i j (false ∷ bs) = rw (shown_own h s i (suc j) bs)

root_own : (h : Mix) (s l i : ℕ) (bs : List Bool) → i < power l →
    up h (path_from h (length bs) s 0 l i) i (h (leaf_row_of h bs (parts_from h s i 0 bs) (others_from h s i 0 bs))) ≡ node h (length bs) s l 0
unfolding node leaf
root_own h s l i bs k = rw (shown_own h s i 0 bs) (climbs h (length bs) s 0 l i l (omega arith) k)

pub own_accepted_lem : (h : Mix) (s l i : ℕ) (bs : List Bool) → i < power l → accepted h (node h (length bs) s l 0) l bs (signed h s l i bs) ≡ true
unfolding signed
own_accepted_lem h s l i bs k =
    sym (by_root h (node h (length bs) s l 0) l bs (signed h s l i bs) (lt-ltb i (power l) k) (length-each _ 0 bs) (length-each _ 0 bs) (length-path h (length bs) s 0 l i)) ∙ eq-eqb _ _ (root_own h s l i bs k)
