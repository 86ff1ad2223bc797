-- With 56 bytes or more the mark ends the block, and with fewer it leaves room for the length.
use Rattle.std.proofs.Common.{◌-◌, ◌%◌, arith}
use Rattle.sha256.specs.Streams.{Holds}
use Rattle.sha256.proofs.Absorbing.{marked_short, marked_full}
use Rattle.sha256.proofs.stream.Sha256.mark.Goals as goal

pub returns-then-used-ge56-clause-marked : goal.returns-then-used-ge56-clause-marked
unfolding Holds
returns-then-used-ge56-clause-marked c = λ m h.
    let s = c.args.self.now in
    let u = s.length % 64 in
    marked_full s.state s.block m u (63 - u) h.1 (omega (arith, h.0)) _ _ (omega arith) (omega arith) c.hash_block.ensures.state c.hash_block.ensures.block

pub returns-else-used-ge56-clause-marked : goal.returns-else-used-ge56-clause-marked
unfolding Holds
returns-else-used-ge56-clause-marked c = λ m h.
    let s = c.args.self.now in
    let u = s.length % 64 in
    marked_short s.state s.block m u (63 - u) h.1 (omega (arith, h.0)) (omega arith) (omega arith)
