-- What is left decides, where all before it was the same.
use Rattle.std.proofs.Common.{◌≡◌, ◌↔◌, IsTrue, length}
use Rattle.hash.proofs.number.equal.same_bytes.Given as goal

abbrev pub invariant-loop-x : goal.invariant-loop-x
invariant-loop-x l =
    (length l.x-iterator.a.rest.now ≡ length l.x-iterator.b.rest.now)
    × ((l.a ≡ l.b) ↔ (IsTrue l.same × (l.x-iterator.a.rest.now ≡ l.x-iterator.b.rest.now)))
