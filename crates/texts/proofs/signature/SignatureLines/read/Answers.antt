-- The lines before the one that is refused were read.
use Rattle.std.proofs.Common.{◌≡◌, Ok, Err, None, Some, Option, Result, IsErrOf, IsErrAnd, map, vec_items, ◌∙◌, arith, below_none, below_more}
use Rattle.std.specs.Option.{ok_or}
use Rattle.std.proofs.lemmas.Option.{MatchOption-at_none, MatchOption-at_some}
use Rattle.hash.specs.Value.{value_of}
use Rattle.keys.specs.declared.refusal.Refusal.{Refusal}
use Rattle.texts.specs.SignatureLines.{Readable}
use Rattle.texts.specs.declared.signature.ReadError.{ReadError}
use Rattle.texts.specs.declared.signature.ReadError.TheVariants.{Refused}
use Rattle.texts.proofs.ReadBack.{spelled_back, read_back, printed_again}
use Rattle.texts.proofs.signature.SignatureLines.read.Goals as goal

-- the refusal that is handed on is the one that stands for a line which is none
handed_on : {A B : Type 0} (result : Result A ReadError) (o : Option B) (x y r : Refusal) → ◌≡◌ {A = Result B Refusal} (Err x) (ok_or o y) → o ≡ None → IsErrAnd result (λ e. e ≡ Refused x) →
    IsErrOf result (Refused r) → r ≡ y
handed_on (Err e) None x y r v n from is = cc
handed_on (Ok a) None x y r v n from is = absurd from
handed_on result (Some b) x y r v n from is = cc

pub returns-in_err-key-clause-refused : goal.returns-in_err-key-clause-refused
returns-in_err-key-clause-refused c r e =
    let none = c.in_err-key.ensures.ok_part in
    let is = handed_on c.from_residual.result c.read_key.result c.in_err-key.field-0.0 c.refusal.result r c.in_err-key.ensures.value none c.from_residual.ensures.1 e in
    (0, omega arith, below_none (Readable c.args.self.now), λ k. MatchOption-at_none _ _ none c.read_key.ensures k.0 k.1, is ∙ c.refusal.ensures)

pub returns-in_err-path-clause-refused : goal.returns-in_err-path-clause-refused
returns-in_err-path-clause-refused c r e =
    let t = c.args.self.now in
    let none = c.in_err-path.ensures.ok_part in
    let is = handed_on c.from_residual-in_err-path.result c.in_ok-read_numbers-3.field-0 c.in_err-path.field-0.0 c.refusal-4.result r c.in_err-path.ensures.value none c.from_residual-in_err-path.ensures.1 e in
    let key = MatchOption-at_some _ _ c.in_ok-key.key c.in_ok-key.ensures.ok_part c.read_key.ensures in
    let one = below_more (Readable t) 0 (below_none (Readable t)) (c.in_ok-key.key, key) in
    let parts = MatchOption-at_some _ _ c.in_ok-parts.parts c.in_ok-parts.ensures.ok_part c.in_ok-read_numbers.ensures.read in
    let two = below_more (Readable t) 1 one (map value_of (vec_items c.in_ok-parts.parts), parts) in
    let others = MatchOption-at_some _ _ c.in_ok-others.others c.in_ok-others.ensures.ok_part c.in_ok-read_numbers-2.ensures.read in
    let three = below_more (Readable t) 2 two (map value_of (vec_items c.in_ok-others.others), others) in
    (3, omega arith, three, λ vs. MatchOption-at_none _ _ none c.in_ok-read_numbers-3.ensures.read vs.0 vs.1, is ∙ c.refusal-4.ensures)

-- a line of what was printed is read, so it is not refused
pub returns-in_err-key-clause-back : goal.returns-in_err-key-clause-back
returns-in_err-key-clause-back c g f l =
    absurd (MatchOption-at_none _ _ c.in_err-key.ensures.ok_part c.read_key.ensures g.key (spelled_back c.args.self.now g f l).0)

pub returns-in_err-parts-clause-back : goal.returns-in_err-parts-clause-back
returns-in_err-parts-clause-back c g f l =
    absurd (MatchOption-at_none _ _ c.in_err-parts.ensures.ok_part c.in_ok-read_numbers.ensures.read g.parts (spelled_back c.args.self.now g f l).1)

pub returns-in_err-others-clause-back : goal.returns-in_err-others-clause-back
returns-in_err-others-clause-back c g f l =
    absurd (MatchOption-at_none _ _ c.in_err-others.ensures.ok_part c.in_ok-read_numbers-2.ensures.read g.others (spelled_back c.args.self.now g f l).2)

pub returns-in_err-path-clause-back : goal.returns-in_err-path-clause-back
returns-in_err-path-clause-back c g f l =
    absurd (MatchOption-at_none _ _ c.in_err-path.ensures.ok_part c.in_ok-read_numbers-3.ensures.read g.path (spelled_back c.args.self.now g f l).3)

pub returns-clause-read : goal.returns-clause-read
returns-clause-read c =
    (MatchOption-at_some _ _ c.in_ok-key.key c.in_ok-key.ensures.ok_part c.read_key.ensures, MatchOption-at_some _ _ c.in_ok-parts.parts c.in_ok-parts.ensures.ok_part c.in_ok-read_numbers.ensures.read, MatchOption-at_some _ _ c.in_ok-others.others c.in_ok-others.ensures.ok_part c.in_ok-read_numbers-2.ensures.read, MatchOption-at_some _ _ c.in_ok-path.path c.in_ok-path.ensures.ok_part c.in_ok-read_numbers-3.ensures.read)

pub returns-clause-back : goal.returns-clause-back
returns-clause-back c g f l = read_back c.args.self.now (record { key = c.in_ok-key.key; parts = c.in_ok-parts.parts; others = c.in_ok-others.others; path = c.in_ok-path.path }) (returns-clause-read c) g f l

pub returns-clause-again : goal.returns-clause-again
returns-clause-again c plain = printed_again c.args.self.now (record { key = c.in_ok-key.key; parts = c.in_ok-parts.parts; others = c.in_ok-others.others; path = c.in_ok-path.path }) (returns-clause-read c) plain
