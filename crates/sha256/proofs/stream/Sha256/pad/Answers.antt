-- The length fills the last block of the padded message.
use Rattle.std.proofs.Common.{◌≡◌, ◌*◌, ◌%◌, ◌^◌, length, ap, ◌∙◌, refl, arith}
use Rattle.std.specs.Int.{w64, to_be_bytes}
use Rattle.sha256.specs.Streams.{Holds}
use Rattle.sha256.proofs.Absorbing.{ended}
use Rattle.sha256.proofs.stream.Sha256.pad.Goals as goal

pub returns : goal.returns
unfolding Holds
returns c = λ m h.
    let s = c.mark.new.self in
    let bits : c.args.self.now.length * 8 % 2 ^ 64 ≡ length m * 8 % 2 ^ 64 = omega (arith, h.0) in
    ended s.state s.block m c.to_be_bytes.result _ _ (c.mark.ensures.marked m h) (c.to_be_bytes.ensures ∙ ap (to_be_bytes w64) bits) c.copy_from_slice.ensures.after refl
