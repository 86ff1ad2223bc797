-- The seed was taken in before, and the three numbers behind it are taken in here.
use Rattle.std.proofs.Common.{◌≡◌, [], ◌∷◌, rules}
use Rattle.std.proofs.Math.Logic.{∥∥₁_elim}
use Rattle.std.proofs.Math.Nat.{ℕ_set}
use Rattle.hash.specs.Value.{value_of}
use Rattle.keys.specs.Keys.{bit, secret}
use Rattle.keys.proofs.one_time.OneTimeKey.secret.Goals as goal

pub returns : goal.returns
unfolding secret
returns g c =
    let s = value_of c.args.self.now.secrets.now.seed in
    let set : value_of c.from-4.result ≡ bit c.args.set = search rules in
    ∥∥₁_elim c.args.self.now.secrets.now.taken (ℕ_set _ _) (λ t.
    rw (c.from.ensures, c.from-2.ensures, set) at (c.finish.ensures _ (c.absorb-3.ensures _ (c.absorb-2.ensures _ (c.absorb.ensures (0 ∷ s ∷ []) t)))))
