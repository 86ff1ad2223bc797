-- One hasher more.
use Rattle.std.proofs.Common.{◌≡◌, ◌≤◌, ℕ, ◌++◌, [], map, length, length-set, slice_set, take, drop, subst, sym, ◌∙◌, add-one, append-nil, arith}
use Rattle.std.specs.List.{AllZip}
use Rattle.std.proofs.lemmas.List.{get_or-map, length-map, take_all, drop_all}
use Rattle.std.proofs.lemmas.Slice.Zip.{AllZip-long}
use Rattle.hash.specs.Rows.{longer}
use Rattle.hash.specs.Value.{value_of}
use Rattle.hash.proofs.Rows.{longer_more}
use Rattle.sha256.specs.Eight.{RowHeld}
use Rattle.sha256.specs.declared.rows.RowSha256.{RowSha256}
use Rattle.sha256.proofs.rows.RowSha256RowHasher.absorb_eight.Goals as goal

pub loop-i-init : goal.loop-i-init
loop-i-init c = (c.told-hashers, λ rows h. h)

pub loop-i-preserved : goal.loop-i-preserved
loop-i-preserved c =
    let i = c.loop-i.i in
    let d : RowSha256 = record { hasher = record { state = []; block = []; length = 0 } } in
    let xs = map value_of c.args.numbers.now in
    let long : length xs ≡ 8 = length-map c.args.numbers.now value_of ∙ c.told-numbers in
    let x = get_or-map value_of c.args.numbers.now i c.index-numbers-i.result 0 (omega arith) in (
      simp length-set c.loop-i.invariant.0,
      λ rows h.
          subst (λ (n : ℕ). AllZip RowHeld (slice_set c.loop-i.hashers i c.absorb.new.self) (longer (take n rows) (take n xs) ++ drop n rows)) (sym (add-one i))
          (longer_more RowHeld c.loop-i.hashers rows xs i _ c.absorb.new.self d (omega (arith, c.loop-i.invariant.0)) (omega arith) x c.absorb.ensures (c.loop-i.invariant.1 rows h)),
    )

pub returns-after-loop-i : goal.returns-after-loop-i
returns-after-loop-i c = λ rows h.
    let i : c.loop-i.i ≡ 8 = omega arith in
    let all : length rows ≤ 8 = omega (arith, AllZip-long RowHeld c.args.hashers.now rows h, c.told-hashers) in
    let xs = map value_of c.args.numbers.now in
    let long : length xs ≤ 8 = omega (arith, length-map c.args.numbers.now value_of, c.told-numbers) in
    rw (i, take_all 8 rows all, take_all 8 xs long, drop_all 8 rows all, append-nil) at (c.loop-i.invariant.1 rows h)
