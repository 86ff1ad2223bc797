-- The numbers before this one are written.
use Rattle.std.proofs.Common.{[], take}
use Rattle.std.specs.Fmt.{HasWritten, IsPlainFormatter}
use Rattle.sessions.specs.Replies.{counts_line}
use Rattle.sessions.proofs.reply.SpacedCountsDisplay.fmt.Given as goal

abbrev pub invariant-loop-count : goal.invariant-loop-count
invariant-loop-count g l =
    IsPlainFormatter l.fn.f → HasWritten g.W.Write.write_str_gives l.fn.f (counts_line [] (take l.count-index l.self.0.now)) l.f
