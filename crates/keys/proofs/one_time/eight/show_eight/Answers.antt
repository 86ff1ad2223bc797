-- Each row is the tag and the secret number.
use Rattle.std.proofs.Common.{ℕ, List, [], ◌∷◌, map, replicate, ◌∙◌}
use Rattle.std.proofs.lemmas.List.{length-map}
use Rattle.hash.specs.Rows.{longer}
use Rattle.hash.specs.Value.{value_of}
use Rattle.keys.proofs.Eights.{alike, shown_each}
use Rattle.keys.proofs.one_time.eight.show_eight.Goals as goal

pub absorb_eight-requires : goal.absorb_eight-requires
absorb_eight-requires g c = g.met.H.RowHasher.eight_fit

pub finish_eight-requires : goal.finish_eight-requires
finish_eight-requires g c = g.met.H.RowHasher.eight_fit

pub returns : goal.returns
returns g c =
    let xs = map value_of c.args.secrets.now in
    let long = length-map c.args.secrets.now value_of ∙ c.told-secrets in
    let fronts : List (List ℕ) = replicate 8 (1 ∷ []) in
    let rows = c.absorb_eight.ensures fronts (alike g.H.RowHasher.holds c.start-hashers.result (1 ∷ []) 8 c.start-hashers.ensures) in
    c.finish_eight.ensures (longer fronts xs) rows ∙ shown_each g.H.RowHasher.mix xs 8 long
