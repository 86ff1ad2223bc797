-- One byte more, and all of them.
use Rattle.std.proofs.Common.{rules}
use Rattle.hash.proofs.Hexes.{byte_more, byte_all}
use Rattle.hash.proofs.number.display.digits_of.Goals as goal

pub loop-i-preserved : goal.loop-i-preserved
loop-i-preserved c =
    let long = c.loop-i.invariant.0 in
    (search rules, byte_more c.args.bytes.now c.loop-i.digits c.loop-i.i _ _ (search rules) (search rules) c.digit_of.ensures c.digit_of-in-loop-i.ensures c.loop-i.invariant.1)

pub returns : goal.returns
returns c = byte_all c.args.bytes.now c.loop-i.digits c.loop-i.i (search rules) (search rules) c.loop-i.invariant.1
