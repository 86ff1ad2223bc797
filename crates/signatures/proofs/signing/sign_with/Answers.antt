-- What is written is the signature.
use Rattle.std.proofs.Common.{◌≡◌, ◌∙◌, length}
use Rattle.hash.specs.Value.{value_of}
use Rattle.keys.specs.Refusals.{tree_refusal}
use Rattle.keys.proofs.Refused.{unrefused, made}
use Rattle.tree.specs.Tree.{path_from}
use Rattle.signatures.proofs.Signs.{signed_of}
use Rattle.signatures.proofs.signing.sign_with.Goals as goal

pub returns : goal.returns
returns g c =
    let h = g.H.RowHasher.mix in
    let l = c.args.signer.now.levels in
    let s = value_of c.args.signer.now.seed in
    let i = c.args.key in
    let bs = c.args.bits.now in
    let m = c.in_ok-maker.maker in
    let maker = unrefused (tree_refusal l (length bs)) m
    (λ t. (t.secrets.seed ≡ c.args.signer.now.seed) × (t.levels ≡ l) × (t.bits ≡ length bs))
    c.in_ok-maker.ensures in
    let seed = c.key.ensures.seed ∙ maker.1.0 in
    let parts = rw (seed, c.key.ensures.index) at c.reveal.ensures.parts in
    let others = rw (seed, c.key.ensures.index) at c.reveal.ensures.others in
    let path : path_from h m.bits (value_of m.secrets.seed) 0 m.levels i ≡ path_from h (length bs) s 0 l i = rw (maker.1.0, maker.1.1, maker.1.2) in
    let rest = c.reveal.ensures.rest in
    record {
      answer = made _ tt _ maker.0 (signed_of h s l i bs _ _ _ parts others (c.authentication_path.ensures.path ∙ path), rest.0, rest.1, c.authentication_path.ensures.rest);
      same = tt;
    }
