-- The piece in front is taken in, behind those before it.
use Rattle.std.proofs.Common.{◌≡◌, ℕ, List, ◌++◌, sym, ap, subst, ◌∙◌}
use Rattle.std.proofs.lemmas.List.{append_assoc, take-append-drop}
use Rattle.sha256.specs.Streams.{Holds}
use Rattle.sha256.proofs.stream.Sha256.update.Goals as goal

pub loop-rest-preserved : goal.loop-rest-preserved
loop-rest-preserved c =
    let i = c.loop-rest.invariant in
    let front = c.split_at.result.0.now in
    let behind = c.split_at.result.1.now in
    let whole : c.loop-rest.rest.now ≡ front ++ behind = sym (rw (c.split_at.ensures.front, c.split_at.ensures.back) (take-append-drop c.min.result c.loop-rest.rest.now)) in (
      i.0 ++ front,
      i.1 ∙ ap (λ (xs : List ℕ). i.0 ++ xs) whole ∙ sym (append_assoc i.0 front behind),
      λ m h. subst (λ (xs : List ℕ). Holds c.take_in.new.self xs) (append_assoc m i.0 front) (c.take_in.ensures (m ++ i.0) (i.2 m h)),
    )
