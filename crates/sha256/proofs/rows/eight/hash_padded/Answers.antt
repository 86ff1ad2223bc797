-- Place by place, each block ends in its own padding.
use Rattle.std.proofs.Common.{◌≡◌, ℕ, List, [], length, ◌∙◌, arith}
use Rattle.std.proofs.lemmas.Slice.Zip.{AllZip-long}
use Rattle.sha256.specs.Eight.{RowHeld, row_value}
use Rattle.sha256.specs.Rows.{row_bytes}
use Rattle.sha256.specs.declared.rows.RowSha256.{RowSha256}
use Rattle.sha256.proofs.Eight.{worked_eight}
use Rattle.sha256.proofs.rows.eight.hash_padded.Goals as goal

pub returns : goal.returns
returns c = λ rows h.
    let hs = c.args.hashers.now in
    let d : RowSha256 = record { hasher = record { state = []; block = []; length = 0 } } in
    let long : length rows ≡ 8 = omega (arith, AllZip-long RowHeld hs rows h, c.told-hashers) in
    let v₀ = λ (row : List ℕ). c.pad.ensures (row_bytes row) in
    let v₁ = λ (row : List ℕ). c.pad-2.ensures (row_bytes row) in
    let v₂ = λ (row : List ℕ). c.pad-3.ensures (row_bytes row) in
    let v₃ = λ (row : List ℕ). c.pad-4.ensures (row_bytes row) in
    let v₄ = λ (row : List ℕ). c.pad-5.ensures (row_bytes row) in
    let v₅ = λ (row : List ℕ). c.pad-6.ensures (row_bytes row) in
    let v₆ = λ (row : List ℕ). c.pad-7.ensures (row_bytes row) in
    let v₇ = λ (row : List ℕ). c.pad-8.ensures (row_bytes row) in
    c.compress_eight.ensures
    ∙ worked_eight RowHeld row_value hs rows d _ _ _ _ _ _ _ _ c.told-hashers long v₀ v₁ v₂ v₃ v₄ v₅ v₆ v₇ h
