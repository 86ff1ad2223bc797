-- The numbers are chosen among the pairs of the eight places.
use Rattle.std.proofs.Common.{false, true, not, map, ap, ◌∙◌, arith}
use Rattle.hash.specs.Value.{value_of}
use Rattle.keys.specs.Keys.{secret, shown}
use Rattle.signatures.proofs.Each.{of_one, map-each}
use Rattle.signatures.proofs.signing.reveal_eight.Goals as goal

pub returns-clause-parts : goal.returns-clause-parts
returns-clause-parts g c =
    let h = g.H.RowHasher.mix in
    let s = value_of c.args.key.now.secrets.now.seed in
    let i = c.args.key.now.index in
    let places = c.eight_from.ensures (omega (arith, c.requires)) in
    let pairs = c.eight_pairs-pairs.ensures in
    c.chosen.ensures (secret h s i) c.args.first (of_one value_of (λ i j. secret h s i j false) i c.args.first 8 _ _ places pairs.unset) (of_one value_of (λ i j. secret h s i j true) i c.args.first 8 _ _ places pairs.set)

pub returns-clause-others : goal.returns-clause-others
returns-clause-others g c =
    let h = g.H.RowHasher.mix in
    let s = value_of c.args.key.now.secrets.now.seed in
    let i = c.args.key.now.index in
    let places = c.eight_from.ensures (omega (arith, c.requires)) in
    let pairs = c.eight_pairs-pairs.ensures in
    let opposite = c.chosen-2.ensures (λ j b. secret h s i j (not b)) c.args.first (of_one value_of (λ i j. secret h s i j true) i c.args.first 8 _ _ places pairs.set) (of_one value_of (λ i j. secret h s i j false) i c.args.first 8 _ _ places pairs.unset) in
    c.show_eight.ensures ∙ (ap (map (shown h)) opposite ∙ map-each (shown h) (λ j b. secret h s i j (not b)) c.args.first c.args.bits.now)
