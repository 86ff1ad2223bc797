-- What a command is answered and leaves depends on what it asks and on a part of the session: the numbers of the store, the levels, bits and seed, and the power.
use Rattle.std.proofs.Common.{◌≡◌, ℕ, List, Some, None, Ok, Err, codes, vec_items, string_bytes, Option, Result, String, ap, ◌∙◌}
use Rattle.std.specs.Option.{option_map}
use Rattle.std.specs.declared.alloc.Global.{Global}
use Rattle.hash.specs.Hex.{hex}
use Rattle.hash.specs.Mix.{Mix}
use Rattle.hash.specs.Value.{bytes_of, value_of}
use Rattle.keys.specs.Refusals.{tree_refusal, refusal_spelled}
use Rattle.keys.specs.declared.refusal.Refusal.{Refusal}
use Rattle.tree.specs.Tree.{node}
use Rattle.tree.specs.declared.own.Tree.{Tree}
use Rattle.signatures.specs.Signatures.{Signature, signed, accepted}
use Rattle.signer.specs.Answers.{answer, stored}
use Rattle.counter.specs.Store.{next, counting}
use Rattle.texts.specs.Bits.{bits_of_text}
use Rattle.texts.specs.SignatureLines.{signature_of, SignatureRead}
use Rattle.texts.specs.declared.command.Command.{Command}
use Rattle.texts.specs.declared.command.Command.TheVariants.{Store, Levels, Root, Sign, Look, Power, Slot, State}
use Rattle.texts.specs.declared.signature.ReadSignature.{ReadSignature}
use Rattle.texts.specs.declared.signature.SignatureLines.{SignatureLines}
use Rattle.texts.proofs.OneMeaning.{SameTree, SameCommand, lines_alone, same_read, read_or_refused, one_refusal}
use Rattle.texts.proofs.ReadBack.{one_signature, read_fits}
use Rattle.sessions.specs.Replies.{sign_spelled, look_spelled, counts_line}
use Rattle.sessions.specs.Sessions.{Has, power_of, refusal_or, Executed, look_answer, Says, Answered, sign_answer, bits_asked}
use Rattle.sessions.specs.declared.session.Session.{Session}

-- that part
pub record Part : Type 0 where
  pub store : List ℕ
  pub levels : ℕ
  pub bits : ℕ
  pub seed : ℕ
  pub power : Option ℕ

abbrev pub part : List ℕ → Tree → Option ℕ → Part
part m t p = record { store = m; levels = t.signer.levels; bits = t.bits; seed = value_of t.signer.seed; power = p }

abbrev pub part_of : Session → Part
part_of s = part (vec_items s.store) s.tree s.power

-- sessions that have the same part
pub has_same : (s r : Session) {m k : List ℕ} (t u : Tree) {p q : Option ℕ} → part m t p ≡ part k u q → Has s m t p → Has r k u q → part_of s ≡ part_of r
has_same s r t u e (a, b, c) (x, y, z) = cc

same_tree : (t u : Tree) {m : List ℕ} {p : Option ℕ} → SameTree t u → part m t p ≡ part m u p
same_tree t u (a, b, c) = cc

-- a command leaves one such part
pub executed_once : (c d : Command) (s r s₁ r₁ : Session) → SameCommand c d → part_of s ≡ part_of r → Executed s c s₁ → Executed r d r₁ → part_of s₁ ≡ part_of r₁
executed_once (Store v) (Store w) s r s₁ r₁ same e = has_same s₁ r₁ _ _ (ap (λ (p : Part). record p { store = vec_items v }) e ∙ ap (λ (m : List ℕ). part m r.tree r.power) same)
executed_once (Levels v) (Levels w) s r s₁ r₁ same e = has_same s₁ r₁ _ _ (ap (λ (p : Part). part p.store v p.power) e ∙ same_tree v w same)
executed_once (Sign x) (Sign y) s r s₁ r₁ same e = has_same s₁ r₁ _ _ (ap (λ (p : Part). record p { store = stored p.levels p.store p.bits (power_of p.power); power = None }) e)
executed_once (Power k) (Power j) s r s₁ r₁ same e = has_same s₁ r₁ _ _ (ap (λ (p : Part). record p { power = Some k }) e ∙ ap (λ (i : ℕ). part (vec_items r.store) r.tree (Some i)) same)
executed_once Root Root s r s₁ r₁ same e = has_same s₁ r₁ _ _ e
executed_once (Look k x) (Look j y) s r s₁ r₁ same e = has_same s₁ r₁ _ _ e
executed_once Slot Slot s r s₁ r₁ same e = has_same s₁ r₁ _ _ e
executed_once State State s r s₁ r₁ same e = has_same s₁ r₁ _ _ e
executed_once c d s r s₁ r₁ same e = absurd same

-- and is answered once
look_once : (h : Mix) (s r : Session) (v : ℕ) (x : List ℕ) (t : SignatureLines) (g k : Result ReadSignature Refusal) → part_of s ≡ part_of r → SignatureRead t g → SignatureRead t k →
    look_answer h s v x g ≡ look_answer h r v x k
look_once h s r v x t (Ok g) (Ok k) e a b =
    ap (λ (p : Part). look_spelled (accepted h v p.levels (bits_of_text h x p.bits) (signature_of g))) e
    ∙ ap (λ (y : Signature). look_spelled (accepted h v r.tree.signer.levels (bits_asked h r x) y)) (one_signature t (signature_of g) (signature_of k) (read_fits g t a) (read_fits k t b) a b)
look_once h s r v x t (Ok g) (Err q) e a b = absurd (read_or_refused t g q a b)
look_once h s r v x t (Err q) (Ok k) e a b = absurd (read_or_refused t k q b a)
look_once h s r v x t (Err q) (Err f) e a b = ap refusal_spelled (one_refusal t q f a b)

said_same : (o p : Option (String Global)) {xs ys : List ℕ} → xs ≡ ys → Says o xs → Says p ys → option_map string_bytes o ≡ option_map string_bytes p
said_same (Some x) (Some y) e a b = cc
said_same (Some x) None e a b = absurd b
said_same None p e a b = absurd a

none_same : (o p : Option (String Global)) → o ≡ None → p ≡ None → option_map string_bytes o ≡ option_map string_bytes p
none_same o p a b = cc

pub answered_once : (h : Mix) (c d : Command) (s r : Session) (t u : SignatureLines) (o p : Option (String Global)) → SameCommand c d → part_of s ≡ part_of r → lines_alone t ≡ lines_alone u → Answered h s c t o → Answered h r d u p →
    option_map string_bytes o ≡ option_map string_bytes p
answered_once h (Store v) (Store w) s r t u o p same e l = none_same o p
answered_once h (Levels v) (Levels w) s r t u o p same e l = none_same o p
answered_once h (Power k) (Power j) s r t u o p same e l = none_same o p
answered_once h Root Root s r t u o p same e l = said_same o p (ap (λ (q : Part). refusal_or (tree_refusal q.levels q.bits) (hex (bytes_of (node h q.bits q.seed q.levels 0)))) e)
answered_once h (Sign x) (Sign y) s r t u o p same e l =
    said_same o p
    (ap (λ (q : Part). sign_spelled (answer q.levels q.store q.bits (power_of q.power)) (signed h q.seed q.levels (next q.store) (bits_of_text h (vec_items x) q.bits))) e
    ∙ ap (sign_answer h r) same)
answered_once h (Look v x) (Look w y) s r t u o p same e l = λ a b.
    said_same o p
    (look_once h s r (value_of v) (vec_items x) t a.0 b.0 e a.1 (same_read t u b.0 l b.1) ∙ (ap (λ (k : ℕ). look_answer h r k (vec_items x) b.0) same.0 ∙ ap (λ (z : List ℕ). look_answer h r (value_of w) z b.0) same.1))
    a.2 b.2
answered_once h Slot Slot s r t u o p same e l = said_same o p (ap (λ (q : Part). counts_line (codes "slot") (counting q.store)) e)
answered_once h State State s r t u o p same e l = said_same o p (ap (λ (q : Part). counts_line (codes "store") q.store) e)
answered_once h c d s r t u o p same e l = absurd same
