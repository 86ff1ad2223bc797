-- Where no key is given the room is as it was, and what is made with the key that was reserved is accepted. The room comes first, so that a signature which is made too early is refused in these words.
use Rattle.std.proofs.Common.{length}
use Rattle.signer.proofs.Entries.{asked_as_sign, room_kept, made_accepted}
use Rattle.signer.proofs.entry.sign_in.Goals as goal

pub returns-in_default-done-clause-room : goal.returns-in_default-done-clause-room
returns-in_default-done-clause-room g c = room_kept _ _ _ _ c.reserve_in-done.result c.args.room.now c.in_default-done.not-Key

pub returns-in_default-done-clause-asked : goal.returns-in_default-done-clause-asked
returns-in_default-done-clause-asked g c = asked_as_sign _ _ c.args.signer.now.levels (length c.args.bits.now) _ _ _ _ _ _ c.in_default.ensures c.numbers.ensures c.reserve_in-done.ensures.asked

pub returns-in-Ok-clause-accepted : goal.returns-in-Ok-clause-accepted
returns-in-Ok-clause-accepted g c = made_accepted _ _ _ _ _ c.args.room.now c.sign_with-made.new.room _ _ _ _ _ _ _ c.in-Ok.ensures.answer c.in-Key.ensures.asked

pub returns-in_default-done-clause-counts : goal.returns-in_default-done-clause-counts
returns-in_default-done-clause-counts g c = c.reserve_in-done.ensures.counts
