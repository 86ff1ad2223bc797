-- The bytes are those of the number, and past the last one there is no bit.
use Rattle.std.proofs.Common.{ℕ, ◌-◌, ◌/◌, ◌%◌, ◌^◌, ◌≤◌, List, length, ap, arith}
use native.Mathlib.Nat.{zero-div}
use Rattle.std.proofs.lemmas.List.{get_or_past}
use Rattle.hash.specs.Value.{bit_at}
use Rattle.hash.proofs.Numbers.{bytes_back}
use Rattle.hash.proofs.number.Number.bit.Goals as goal

pub returns-then-place-ge-BITS : goal.returns-then-place-ge-BITS
returns-then-place-ge-BITS c =
    let n = c.args.self.now in
    let h : length n.bytes ≤ c.args.place / 8 = omega (arith, n.sized) in
    rw (← bytes_back n, get_or_past n.bytes (c.args.place / 8) 0 h, zero-div (2 ^ (7 - c.args.place % 8)))

pub returns : goal.returns
returns c = ap (λ (bs : List ℕ). bit_at bs c.args.place) (bytes_back c.args.self.now)
