-- The zeros of the padding are as few as they can be.
use Rattle.std.proofs.Common.{arith}
use Rattle.compression.specs.Laws.{FewestZeros}

pub fewest_zeros_lem : FewestZeros
fewest_zeros_lem n = (omega arith, λ k e. omega arith)
