-- The standard's example, computed from the definitions.
use Rattle.std.proofs.Common.{refl}
use Rattle.compression.specs.Examples.{DigestOfAbc}
use Rattle.compression.specs.Fips180.{ch, maj, padding, words, word_after, schedule, round, rounds, compressed, hash_after, sha256}

pub abc : DigestOfAbc
unfolding ch maj padding words word_after schedule round rounds compressed hash_after sha256
abc = refl
