-- No bit yet, one bit further, and the rows' end.
use Rattle.std.proofs.Common.{ℕ, List, [], ◌∷◌, map, replicate, subst, ◌∙◌, arith}
use Rattle.std.specs.List.{AllZip}
use Rattle.hash.specs.Value.{value_of}
use Rattle.keys.specs.Keys.{leaf_row}
use Rattle.keys.proofs.Eights.{alike, leaf_rows_none, leaf_rows_next, leaves_of_rows}
use Rattle.keys.proofs.one_time.Secrets.leaves.Goals as goal

pub absorb_shown-requires : goal.absorb_shown-requires
absorb_shown-requires g c = g.met.H.RowHasher.eight_fit

pub finish_eight-requires : goal.finish_eight-requires
finish_eight-requires g c = g.met.H.RowHasher.eight_fit

pub loop-bit-init : goal.loop-bit-init
loop-bit-init g c =
    subst (λ (rows : List (List ℕ)). AllZip g.H.RowHasher.holds (replicate 8 c.start-hashers.result) rows)
    (leaf_rows_none g.H.RowHasher.mix (value_of c.args.self.now.seed) c.args.keys.now 8 c.told-keys)
    (alike g.H.RowHasher.holds c.start-hashers.result (2 ∷ []) 8 c.start-hashers.ensures)

pub loop-bit-preserved : goal.loop-bit-preserved
loop-bit-preserved g c =
    leaf_rows_next g.H.RowHasher.mix (value_of c.args.self.now.seed) c.loop-bit.bit c.args.keys.now _ _ g.H.RowHasher.holds c.loop-bit.hashers c.absorb_shown.new.hashers c.told-keys
    c.eight_pairs.ensures.unset c.eight_pairs.ensures.set c.loop-bit.invariant c.absorb_shown.ensures

pub returns : goal.returns
returns g c =
    let rows = map (leaf_row g.H.RowHasher.mix c.loop-bit.bit (value_of c.args.self.now.seed)) c.args.keys.now in
    c.finish_eight.ensures rows c.loop-bit.invariant ∙ leaves_of_rows g.H.RowHasher.mix (value_of c.args.self.now.seed) c.loop-bit.bit c.args.bits c.args.keys.now (omega arith)
