-- The hash value before any block, and an empty block.
use Rattle.std.proofs.Common.{refl}
use Rattle.compression.specs.Fips180.{hash_after}
use Rattle.sha256.specs.Streams.{Holds}
use Rattle.sha256.proofs.stream.Sha256.new.Goals as goal

pub returns : goal.returns
unfolding Holds hash_after
returns c = (refl, (c.initial.ensures, refl))
