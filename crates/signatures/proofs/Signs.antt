-- A signature, from its parts.
use Rattle.std.proofs.Common.{◌≡◌, ℕ, Bool, List, length}
use Rattle.hash.specs.Mix.{Mix}
use Rattle.tree.specs.Tree.{path_from}
use Rattle.signatures.specs.Signatures.{parts_from, others_from, signed}

pub signed_of : (h : Mix) (s l i : ℕ) (bs : List Bool) (ps os ws : List ℕ) → ps ≡ parts_from h s i 0 bs → os ≡ others_from h s i 0 bs → ws ≡ path_from h (length bs) s 0 l i →
    record { key = i; parts = ps; others = os; path = ws } ≡ signed h s l i bs
unfolding signed
signed_of h s l i bs ps os ws p o w = λ x. record { key = i; parts = p x; others = o x; path = w x }
