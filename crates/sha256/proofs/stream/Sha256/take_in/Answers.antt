-- Either the bytes fill the block, or they leave it short.
use Rattle.std.proofs.Common.{length-append, refl, arith}
use Rattle.sha256.specs.Streams.{Holds}
use Rattle.sha256.proofs.Absorbing.{put_short, put_full}
use Rattle.sha256.proofs.stream.Sha256.take_in.Goals as goal

pub returns-then-end-eq64 : goal.returns-then-end-eq64
unfolding Holds
returns-then-end-eq64 c = λ m h. (
  omega (arith, h.0, length-append m c.args.bytes.now),
  put_full c.args.self.now.state c.args.self.now.block _ _ m c.args.bytes.now _ _ _ h.1 (omega (arith, h.0)) (omega arith) (omega arith) c.copy_from_slice.ensures.after c.hash_block.ensures.state c.hash_block.ensures.block,
)

pub returns-else-end-eq64 : goal.returns-else-end-eq64
unfolding Holds
returns-else-end-eq64 c = λ m h. (
  omega (arith, h.0, length-append m c.args.bytes.now),
  put_short c.args.self.now.state c.args.self.now.block _ m c.args.bytes.now _ _ _ h.1 (omega (arith, h.0)) (omega arith) (omega arith) c.copy_from_slice.ensures.after refl,
)
