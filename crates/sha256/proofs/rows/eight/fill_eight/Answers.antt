-- Place by place, each number fills its block.
use Rattle.std.proofs.Common.{◌≡◌, ℕ, ◌<◌, List, [], ◌++◌, length, take, get_or, ap, ◌∙◌, arith}
use Rattle.std.proofs.lemmas.List.Elements.{All-get_or}
use Rattle.std.proofs.lemmas.Slice.Zip.{AllZip-long}
use Rattle.hash.specs.Value.{value_of, bytes_of}
use Rattle.hash.specs.declared.number.Number.{Number}
use Rattle.compression.specs.Fips180.{compressed}
use Rattle.sha256.specs.Eight.{RowHeld, HalfFull}
use Rattle.sha256.specs.declared.rows.RowSha256.{RowSha256}
use Rattle.sha256.proofs.Eight.{longer_eight}
use Rattle.sha256.proofs.rows.eight.fill_eight.Goals as goal

pub returns : goal.returns
returns c = λ rows h.
    let hs = c.args.hashers.now in
    let ns = c.args.numbers.now in
    let d : RowSha256 = record { hasher = record { state = []; block = []; length = 0 } } in
    let long : length rows ≡ 8 = omega (arith, AllZip-long RowHeld hs rows h, c.told-hashers) in
    let half : (i : ℕ) → i < 8 → HalfFull (get_or hs i d) = λ i few. All-get_or HalfFull hs i d (omega (arith, c.told-hashers)) c.requires in
    let number = λ (i : ℕ) (n : Number). value_of (get_or ns i n) in
    let state = λ (i : ℕ). (get_or hs i d).hasher.state in
    let block = λ (i : ℕ) (n : Number). take 32 (get_or hs i d).hasher.block ++ bytes_of (number i n) in
    let next = λ (i : ℕ). ap (λ (xs : List (List ℕ)). get_or xs i []) c.compress_eight.ensures in
    let lane = λ (i : ℕ) (n : Number) (b : List ℕ) (q : get_or c.compress_eight.result i [] ≡ compressed (state i) b) (e : b ≡ block i n). q ∙ ap (compressed (state i)) e in
    let t₀ = c.behind.ensures (number 0 c.index-numbers-0.result) (half 0 (omega arith)) (lane 0 c.index-numbers-0.result c.filled.result (next 0) c.filled.ensures) in
    let t₁ = c.behind-2.ensures (number 1 c.index-numbers-1.result) (half 1 (omega arith)) (lane 1 c.index-numbers-1.result c.filled-2.result (next 1) c.filled-2.ensures) in
    let t₂ = c.behind-3.ensures (number 2 c.index-numbers-2.result) (half 2 (omega arith)) (lane 2 c.index-numbers-2.result c.filled-3.result (next 2) c.filled-3.ensures) in
    let t₃ = c.behind-4.ensures (number 3 c.index-numbers-3.result) (half 3 (omega arith)) (lane 3 c.index-numbers-3.result c.filled-4.result (next 3) c.filled-4.ensures) in
    let t₄ = c.behind-5.ensures (number 4 c.index-numbers-4.result) (half 4 (omega arith)) (lane 4 c.index-numbers-4.result c.filled-5.result (next 4) c.filled-5.ensures) in
    let t₅ = c.behind-6.ensures (number 5 c.index-numbers-5.result) (half 5 (omega arith)) (lane 5 c.index-numbers-5.result c.filled-6.result (next 5) c.filled-6.ensures) in
    let t₆ = c.behind-7.ensures (number 6 c.index-numbers-6.result) (half 6 (omega arith)) (lane 6 c.index-numbers-6.result c.filled-7.result (next 6) c.filled-7.ensures) in
    let t₇ = c.behind-8.ensures (number 7 c.index-numbers-7.result) (half 7 (omega arith)) (lane 7 c.index-numbers-7.result c.filled-8.result (next 7) c.filled-8.ensures) in
    longer_eight RowHeld value_of hs ns rows d _ _ _ _ _ _ _ _ _ _ _ _ _ _ _ _ c.told-hashers c.told-numbers long t₀ t₁ t₂ t₃ t₄ t₅ t₆ t₇ h
