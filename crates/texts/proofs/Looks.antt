-- A line that is a `look` takes the next four lines with it.
use Rattle.std.proofs.Common.{◌≡◌, ℕ, true, List, ◌++◌, codes, ap}
use Rattle.hash.specs.Hex.{hex}
use Rattle.hash.specs.declared.number.Number.{Number}
use Rattle.texts.specs.Commands.{takes_four}

pub look_takes_four : (cs : List ℕ) (r : Number) (t : List ℕ) → cs ≡ codes "look " ++ (hex r.bytes ++ (codes " " ++ t)) → takes_four cs ≡ true
look_takes_four cs r t s = ap takes_four s
