-- The seed was taken in before, the keys and the bits are taken in here, and whether the bit is set comes last.
use Rattle.std.proofs.Common.{true, false}
use Rattle.hash.specs.Value.{value_of}
use Rattle.keys.proofs.Eights.{pairs_of}
use Rattle.keys.proofs.one_time.Secrets.eight_pairs.Goals as goal

pub absorb_eight-requires : goal.absorb_eight-requires
absorb_eight-requires g c = g.met.H.RowHasher.eight_fit

pub absorb_eight-requires-2 : goal.absorb_eight-requires-2
absorb_eight-requires-2 g c = g.met.H.RowHasher.eight_fit

pub finish_with-requires : goal.finish_with-requires
finish_with-requires g c = g.met.H.RowHasher.eight_fit

pub finish_with-requires-2 : goal.finish_with-requires-2
finish_with-requires-2 g c = g.met.H.RowHasher.eight_fit

pub returns-clause-unset : goal.returns-clause-unset
returns-clause-unset g c =
    pairs_of g.H.RowHasher.holds g.H.RowHasher.mix (value_of c.args.self.now.seed) false c.args.keys.now c.args.bits.now _ _ _ c.args.self.now.hasher _ _ c.told-keys c.told-bits c.numbers.ensures c.numbers-2.ensures c.args.self.now.taken c.absorb_eight.ensures c.absorb_eight-2.ensures c.finish_with.ensures

pub returns-clause-set : goal.returns-clause-set
returns-clause-set g c =
    pairs_of g.H.RowHasher.holds g.H.RowHasher.mix (value_of c.args.self.now.seed) true c.args.keys.now c.args.bits.now _ _ _ c.args.self.now.hasher _ _ c.told-keys c.told-bits c.numbers.ensures c.numbers-2.ensures c.args.self.now.taken c.absorb_eight.ensures c.absorb_eight-2.ensures c.finish_with-2.ensures
