-- A store that is printed is read back, and printed again as it was.
use Rattle.std.proofs.Common.{◌≡◌, ℕ, ◌^◌, ◌<◌, List, ◌++◌, Some, None, Option, IfSome, IsSomeAnd, MatchOption, Vec, vec_items, codes, sym, ap, ◌∙◌, subst, arith}
use Rattle.std.specs.declared.alloc.Global.{Global}
use Rattle.std.proofs.lemmas.List.{append_cancel_left}
use Rattle.hash.specs.Members.{In}
use Rattle.reading.specs.Reading.{Reads, ReadsAs}
use Rattle.reading.specs.Spaced.{SpacedWords, counts_line}
use Rattle.reading.specs.Spelling.{decimal_of}
use Rattle.reading.proofs.Printed.{counts_read, counts_told, counts_printed}
use Rattle.texts.specs.Commands.{Spelled, IsStoreOf, PlainStore}
use Rattle.texts.specs.declared.command.Command.{Command}
use Rattle.texts.specs.declared.command.Command.TheVariants.{Store}
use Rattle.texts.proofs.Cuts.{stored_words}

-- what was read of counts is these
is_store : (text vs : List ℕ) (o : Option (Vec ℕ Global)) (r : Option Command) → MatchOption o (r ≡ None) (λ x. IsSomeAnd r (λ c. c ≡ Store x)) →
    ReadsAs (SpacedWords (λ w v. decimal_of (2 ^ 32) w ≡ Some v) text) (λ v. vec_items v) o → SpacedWords (λ w v. decimal_of (2 ^ 32) w ≡ Some v) text vs → IsSomeAnd r (IsStoreOf vs)
is_store text vs None r m none words = absurd (none vs words)
is_store text vs (Some x) None m read words = absurd m
is_store text vs (Some x) (Some c) m read words =
    subst (λ (k : Command). IsStoreOf vs k) (sym m) (counts_told (2 ^ 32) (omega arith) text (vec_items x) vs read words)

-- what stands behind the word of a store that is printed is read as its numbers
pub store_back : (line text vs : List ℕ) (o : Option (Vec ℕ Global)) (r : Option Command) → MatchOption o (r ≡ None) (λ x. IsSomeAnd r (λ c. c ≡ Store x)) →
    ReadsAs (SpacedWords (λ w v. decimal_of (2 ^ 32) w ≡ Some v) text) (λ v. vec_items v) o → line ≡ codes "store" ++ text → ((v : ℕ) → In v vs → v < 2 ^ 32) → line ≡ counts_line (codes "store") vs →
    IsSomeAnd r (IsStoreOf vs)
store_back line text vs o r m read e b p =
    let behind = append_cancel_left (codes "store") _ text (sym p ∙ e) in
    is_store text vs o r m read (subst (λ (t : List ℕ). SpacedWords (λ w v. decimal_of (2 ^ 32) w ≡ Some v) t vs) behind (counts_read (2 ^ 32) (omega arith) vs b))

-- and a store that was read is printed again as it was
pub store_again : (line : List ℕ) (o : Option Command) → Reads (Spelled line) o → IfSome o (λ c. (vs : List ℕ) → IsStoreOf vs c → PlainStore line → line ≡ counts_line (codes "store") vs)
store_again line None read = tt
store_again line (Some (Store v)) read = λ vs is plain.
    let text_is = append_cancel_left (codes "store") _ read.0 (sym plain.1 ∙ read.1) in
    let words = counts_printed (2 ^ 32) (omega arith) read.0 (vec_items v) plain.0 (stored_words read.0 (vec_items v) read.2) (sym text_is) plain.2 in
    read.1 ∙ (ap (λ (t : List ℕ). codes "store" ++ t) words ∙ ap (counts_line (codes "store")) is)
store_again line (Some c) read = λ vs is plain. absurd is
