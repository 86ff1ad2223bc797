-- Each test as `accepted` has it.
use Rattle.std.proofs.Common.{ℕ, eqb, sym, ap, ◌∙◌}
use Rattle.hash.specs.Value.{value_of}
use Rattle.tree.specs.Tree.{up}
use Rattle.std.proofs.lemmas.List.{length-map}
use Rattle.signatures.specs.Views.{viewed}
use Rattle.signatures.proofs.Accepts.{no_by_key, no_by_parts, no_by_others, no_by_path, by_root}
use Rattle.signatures.proofs.verifying.verify.Goals as goal

pub returns-then-not-in_tree : goal.returns-then-not-in_tree
returns-then-not-in_tree g c =
    no_by_key g.H.RowHasher.mix _ c.args.levels _ (viewed c.args.signature) (sym c.in_tree.ensures ∙ c.if-not-in_tree.true)

pub returns-then-signature-count : goal.returns-then-signature-count
returns-then-signature-count g c =
    no_by_parts g.H.RowHasher.mix _ c.args.levels _ (viewed c.args.signature) (λ e. c.if-signature-count.true (sym (length-map _ value_of) ∙ e))

pub returns-then-signature-count-2 : goal.returns-then-signature-count-2
returns-then-signature-count-2 g c =
    no_by_others g.H.RowHasher.mix _ c.args.levels _ (viewed c.args.signature) (λ e. c.if-signature-count-2.true (sym (length-map _ value_of) ∙ e))

pub returns-then-signature-levels : goal.returns-then-signature-levels
returns-then-signature-levels g c =
    no_by_path g.H.RowHasher.mix _ c.args.levels _ (viewed c.args.signature) (λ e. c.if-signature-levels.true (sym (length-map _ value_of) ∙ e))

pub returns : goal.returns
returns g c =
    let h = g.H.RowHasher.mix in
    let root = value_of c.args.root.now in
    let seen = viewed c.args.signature in
    let key = sym c.in_tree.ensures ∙ c.if-not-in_tree.false in
    let parts = length-map c.args.signature.parts.now value_of ∙ c.if-signature-count.false in
    let others = length-map c.args.signature.others.now value_of ∙ c.if-signature-count-2.false in
    let path = length-map c.args.signature.path.now value_of ∙ c.if-signature-levels.false in
    let walk = c.climb.ensures ∙ ap (λ (v : ℕ). up h seen.path seen.key v) c.leaf_of-leaf.ensures in
    c.eq.ensures ∙ (ap (λ (v : ℕ). eqb v root) walk ∙ by_root h root c.args.levels c.args.bits.now seen key parts others path)
