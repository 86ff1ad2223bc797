-- Each number is worth the bytes of its row's hash value.
use Rattle.std.proofs.Common.{◌≡◌, ℕ, List, [], map, length, ap, ◌∙◌, arith}
use Rattle.std.proofs.lemmas.List.{length-map}
use Rattle.std.proofs.lemmas.Simd.{map-map}
use Rattle.std.proofs.lemmas.Slice.Zip.{AllZip-long}
use Rattle.std.specs.Int.{w32, to_be_bytes}
use Rattle.std.specs.List.{flat_map}
use Rattle.hash.specs.Value.{worth}
use Rattle.compression.specs.Fips180.{sha256}
use Rattle.sha256.specs.Eight.{RowHeld, row_value}
use Rattle.sha256.specs.Rows.{row_hash}
use Rattle.sha256.proofs.Eight.{mapped_eight}
use Rattle.sha256.proofs.rows.RowSha256RowHasher.finish_eight.Goals as goal

pub returns : goal.returns
unfolding row_hash sha256
returns c = λ rows h.
    let of = λ (v : List ℕ). worth (flat_map (to_be_bytes w32) v) in
    let vs = c.hash_padded.result in
    let is = c.hash_padded.ensures rows h in
    let long : length vs ≡ 8 = ap length is ∙ omega (arith, length-map rows row_value, AllZip-long RowHeld c.args.hashers.now rows h, c.told-hashers) in
    mapped_eight of vs [] _ _ _ _ _ _ _ _ long (c.from.ensures.1 ∙ ap worth c.to_bytes.ensures)
    (c.from-2.ensures.1 ∙ ap worth c.to_bytes-2.ensures)
    (c.from-3.ensures.1 ∙ ap worth c.to_bytes-3.ensures)
    (c.from-4.ensures.1 ∙ ap worth c.to_bytes-4.ensures)
    (c.from-5.ensures.1 ∙ ap worth c.to_bytes-5.ensures)
    (c.from-6.ensures.1 ∙ ap worth c.to_bytes-6.ensures)
    (c.from-7.ensures.1 ∙ ap worth c.to_bytes-7.ensures)
    (c.from-8.ensures.1 ∙ ap worth c.to_bytes-8.ensures)
    ∙ ap (map of) is
    ∙ map-map of row_value rows
