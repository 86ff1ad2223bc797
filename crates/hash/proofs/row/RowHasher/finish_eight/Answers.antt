-- One hash more.
use Rattle.std.proofs.Common.{◌≡◌, ◌≤◌, ℕ, List, ◌++◌, ◌∷◌, [], map, length, length-set, take, ap, sym, refl, ◌∙◌, add-one, arith}
use Rattle.std.proofs.lemmas.List.{take_all}
use Rattle.std.proofs.lemmas.Slice.Zip.{AllZip-long}
use Rattle.hash.specs.Value.{value_of}
use Rattle.hash.specs.declared.number.Number.{Number}
use Rattle.hash.proofs.Fronts.{front_more}
use Rattle.hash.proofs.Rows.{hashed_more}
use Rattle.hash.proofs.row.RowHasher.finish_eight.Goals as goal

pub loop-i-init : goal.loop-i-init
loop-i-init g c = (refl, λ rows h. refl)

pub loop-i-preserved : goal.loop-i-preserved
loop-i-preserved g c =
    let i = c.loop-i.i in
    let mix = g.Self.RowHasher.mix in
    let v = value_of c.finish.result in (
      simp length-set c.loop-i.invariant.0,
      λ rows h.
          front_more value_of c.loop-i.hashes i c.finish.result (omega (arith, c.loop-i.invariant.0))
          ∙ ap (λ (ns : List ℕ). ns ++ (v ∷ [])) (c.loop-i.invariant.1 rows h)
          ∙ hashed_more g.Self.RowHasher.holds mix c.args.hashers.now rows i v c.index-hashers-i.result (omega (arith, c.told-hashers)) h c.finish.ensures
          ∙ ap (λ (n : ℕ). map mix (take n rows)) (sym (add-one i)),
    )

pub returns : goal.returns
returns g c = λ rows h.
    let i : c.loop-i.i ≡ 8 = omega arith in
    let all : length rows ≤ 8 = omega (arith, AllZip-long g.Self.RowHasher.holds c.args.hashers.now rows h, c.told-hashers) in
    sym (ap (λ (ns : List Number). map value_of ns) (take_all 8 c.loop-i.hashes (omega (arith, c.loop-i.invariant.0))))
    ∙ ap (λ (n : ℕ). map value_of (take n c.loop-i.hashes)) (sym i)
    ∙ c.loop-i.invariant.1 rows h
    ∙ ap (λ (n : ℕ). map g.Self.RowHasher.mix (take n rows)) i
    ∙ ap (map g.Self.RowHasher.mix) (take_all 8 rows all)
