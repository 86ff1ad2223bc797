-- Each row has the last number behind it.
use Rattle.std.proofs.Common.{ℕ, List, [], ◌∷◌, ◌++◌, map, ap, ◌∙◌}
use Rattle.std.proofs.lemmas.Slice.Zip.{AllZip-long}
use Rattle.hash.specs.Value.{value_of}
use Rattle.keys.proofs.Eights.{hashes_longer}
use Rattle.keys.proofs.one_time.eight.finish_with.Goals as goal

pub returns : goal.returns
returns g c = λ rows h.
    let mix = g.H.RowHasher.mix in
    let long = AllZip-long g.H.RowHasher.holds c.args.fronts.now rows h ∙ c.told-fronts in
    c.finish_eight.ensures _ (c.absorb_eight.ensures rows h)
    ∙ hashes_longer mix rows (value_of c.from.result) 8 long
    ∙ ap (λ (x : ℕ). map (λ (row : List ℕ). mix (row ++ (x ∷ []))) rows) c.from.ensures
