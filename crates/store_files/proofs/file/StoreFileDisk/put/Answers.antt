-- One write more waits.
use Rattle.std.proofs.Common.{sym}
use Rattle.counter.proofs.Found.{left_by_more}
use Rattle.store_files.proofs.file.StoreFileDisk.put.Goals as goal

pub invariant_of-self : goal.invariant_of-self
invariant_of-self g c = record { waited = rw (c.then-self.ensures, c.args.self.now.waited) (sym (left_by_more c.args.self.now.waits.writes c.args.self.now.settled c.args.place c.args.value)) }
