-- The count and its check, written where they belong, with power for a number of writes or fewer; and what is found where one of the two was not made.
use Rattle.std.proofs.Common.{rules, ◌≡◌, true, Ok, Err, Result, is_ok, OnOk}
use Rattle.counter.proofs.Found.{none_in_step, count_in_step}
use Rattle.counter.proofs.Writes.{fits, none_written, counted, check_fits, checked_for}
use Rattle.counter.proofs.store.Store.reserve.Goals as goal

on_ok : {T E P : Type 0} (r : Result T E) → OnOk r P → is_ok r ≡ true → P
on_ok (Ok x) p e = p
on_ok (Err x) p e = absurd cc

pub returns-in_err-write-clause-written : goal.returns-in_err-write-clause-written
returns-in_err-write-clause-written g c =
    let m = c.args.self.now.cells in
    let none = none_written (g.C.Cells.held c.args.cells.now) (g.C.Cells.writes c.args.cells.now) g.C.Cells.sure (g.C.Cells.lasts c.args.cells.now)
    (λ s. c.in_err-write.ensures.made s (rw (c.requires.read, c.slot_to_write-place.ensures.is) (fits m c.args.self.now.is_sound).0)) in
    search rules

pub returns-in_err-write-clause-in_step : goal.returns-in_err-write-clause-in_step
returns-in_err-write-clause-in_step g c = λ in_step.
    let m = c.args.self.now.cells in
    let step = none_in_step m _ _ _ _ _ c.args.self.now.is_sound c.requires.read c.slot_to_write-place.ensures.is c.next_key-count.ensures c.in_err-write.ensures.disk in_step in
    search rules

pub returns-clause-written : goal.returns-clause-written
returns-clause-written g c =
    let m = c.args.self.now.cells in
    let done = counted m _ _ _ _ _ _ c.args.self.now.is_sound c.requires.read c.slot_to_write-place.ensures.is c.next_key-count.ensures c.in_ok-write.ensures.held c.in_ok-write.ensures.writes in
    checked_for m _ _ _ _ _ _ _ _ _ done c.check_of.ensures g.C.Cells.sure (g.C.Cells.lasts c.args.cells.now) _ _ c.write-2.ensures.held c.write-2.ensures.writes
    c.in_ok-write.ensures.few c.in_ok-write.ensures.lasts (on_ok c.write-2.result c.write-2.ensures.few) (λ s. c.write-2.ensures.made s (check_fits m _ _ _ _ _ _ done))

pub returns-clause-in_step : goal.returns-clause-in_step
returns-clause-in_step g c =
    let m = c.args.self.now.cells in
    let done = counted m _ _ _ _ _ _ c.args.self.now.is_sound c.requires.read c.slot_to_write-place.ensures.is c.next_key-count.ensures c.in_ok-write.ensures.held c.in_ok-write.ensures.writes in
    count_in_step m _ _ _ _ _ _ _ _ _ _ _ _ done c.check_of.ensures c.write-2.ensures.held c.in_ok-write.ensures.disk c.write-2.ensures.disk
