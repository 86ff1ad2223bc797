-- One value more, and nothing left. Memory is asked for behind a word alone.
use Rattle.std.proofs.Common.{List, [], ◌∷◌, ◌++◌, vec_items, inr, sym, ap, ◌∙◌, subst, append_assoc, arith}
use Rattle.std.proofs.lemmas.List.{append-nil, nil_from_length}
use Rattle.std.proofs.lemmas.Bool.{eqb-false, eqb-true}
use Rattle.reading.specs.Spaced.{SpacedWords}
use Rattle.reading.proofs.Cuts.{begun, rest_words, one_more, word_read}
use Rattle.reading.proofs.spaced.read_words.Goals as goal

pub returns-in_default-clause-read : goal.returns-in_default-clause-read
returns-in_default-clause-read g c =
    let spells = g.T.FromWord.spells in
    let refused : (vs : List g.row.T.Denot) → SpacedWords spells c.args.text.now vs → ⊥ =
    λ vs s.
    let k = c.loop-left.invariant.1 vs s in
    let none = eqb-false _ _ (sym c.is_empty.ensures ∙ c.loop-left-test.true) in
    let f = begun spells c.loop-left.left.now k.0 (omega arith) k.1 in c.in_default.ensures f.0 f.1 f.2 f.4 in
    refused

pub loop-left-preserved : goal.loop-left-preserved
loop-left-preserved g c =
    let spells = g.T.FromWord.spells in
    let left = c.loop-left.left.now in
    let rest = c.in-Some.rest.now in
    let before = vec_items c.loop-left.values in
    let value = c.in-Some.value in
    let word = c.in-Some.ensures in
    let pushed = c.in_ok-push.ensures.items in (
      λ vs s.
          let whole = c.loop-left.invariant.0 (value ∷ vs) (one_more spells left word.0 rest value vs word.1 s) in
          subst (SpacedWords spells c.args.text.now) (sym (ap (λ (xs : List g.row.T.Denot). xs ++ vs) pushed ∙ append_assoc before (value ∷ []) vs)) whole,
      λ vs s.
          let k = c.loop-left.invariant.1 vs s in rest_words spells left word.0 rest value k.0 word.1 k.1,
      inr (word_read spells c.args.text.now left word.0 rest value c.loop-left.invariant.2 word.1),
    )

pub returns-clause-read : goal.returns-clause-read
returns-clause-read g c =
    let none = nil_from_length c.loop-left.left.now (eqb-true _ _ (sym c.is_empty.ensures ∙ c.loop-left-test.false)) in
    subst (SpacedWords g.T.FromWord.spells c.args.text.now) (append-nil (vec_items c.loop-left.values)) (c.loop-left.invariant.0 [] ([], none, tt))

pub returns-in_err-push-clause-asked : goal.returns-in_err-push-clause-asked
returns-in_err-push-clause-asked g c e =
    let word = c.in-Some.ensures in
    word_read g.T.FromWord.spells c.args.text.now c.loop-left.left.now word.0 c.in-Some.rest.now c.in-Some.value c.loop-left.invariant.2 word.1
