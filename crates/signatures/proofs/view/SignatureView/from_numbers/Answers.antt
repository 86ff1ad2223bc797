-- What is shown lies in the row, and nothing else does.
use Rattle.hash.specs.Value.{value_of}
use Rattle.signatures.proofs.Flat.{lies_in, lies_once}
use Rattle.signatures.proofs.view.SignatureView.from_numbers.Goals as goal

pub returns-clause-view : goal.returns-clause-view
returns-clause-view c =
    lies_in value_of c.args.key c.args.bits c.args.flat.now c.split_at.result.0.now c.split_at.result.1.now c.split_at-2.result.0.now c.split_at-2.result.1.now
    c.split_at.ensures.front c.split_at.ensures.back c.split_at-2.ensures.front c.split_at-2.ensures.back c.split_at.ensures.front_len c.split_at-2.ensures.front_len

pub returns-clause-back : goal.returns-clause-back
returns-clause-back c = λ g lies. lies_once _ _ _ _ g (returns-clause-view c) lies
