-- What is promised follows from what is answered.
use Rattle.std.proofs.Common.{◌≡◌, ℕ, ◌<◌, min, Bool, true, false, ◌⊎◌, List, ◌++◌, length, get_or, Some, None, Ok, Err, vec_items, codes, decimal, Option, Result, String, sym, refl, ap, ◌∙◌, subst, arith}
use Rattle.std.specs.declared.alloc.Global.{Global}
use Rattle.std.proofs.lemmas.List.FromFn.{length-map-range_with_len}
use Rattle.std.proofs.lemmas.Fmt.{decimal_digit}
use Rattle.std.proofs.lemmas.Bool.{ltb-true}
use Rattle.hash.specs.Mix.{Mix}
use Rattle.hash.specs.Value.{bytes_of, value_of, bit_at}
use Rattle.sha256.specs.Rows.{row_hash}
use Rattle.keys.specs.Refusals.{refusal_number, refusal_place, refusal_spelled}
use Rattle.keys.specs.declared.refusal.Refusal.{Refusal}
use Rattle.keys.specs.declared.refusal.Refusal.TheVariants.{Levels as TooManyLevels, Store as BadStore, NextKey, Bits, Line}
use Rattle.keys.proofs.Refused.{bits_taken}
use Rattle.tree.specs.Tree.{node}
use Rattle.signatures.specs.Lines.{signature_text}
use Rattle.signatures.specs.Rows.{LocatedCollision}
use Rattle.signatures.specs.Signatures.{signed, accepted}
use Rattle.signatures.proofs.Forgeries.{own_or_located_lem}
use Rattle.signatures.proofs.Own.{own_accepted_lem}
use Rattle.signer.specs.Answers.{answer}
use Rattle.signer.specs.Promises.{Own}
use Rattle.digests.proofs.Strings.{as_strings}
use Rattle.counter.specs.Store.{next}
use Rattle.counter.specs.declared.answer.Done.{Done}
use Rattle.counter.specs.declared.answer.Done.TheVariants.{Key}
use Rattle.signer.proofs.Entries.{taken, key_answered}
use Rattle.texts.specs.Bits.{text_row}
use Rattle.texts.specs.SignatureLines.{signature_of, LinesOf, SignatureRead}
use Rattle.texts.specs.declared.command.Command.{Command}
use Rattle.texts.specs.declared.command.Command.TheVariants.{Store, Levels, Root, Sign, Look, Power, Slot, State}
use Rattle.texts.specs.declared.signature.ReadSignature.{ReadSignature}
use Rattle.texts.specs.declared.signature.SignatureLines.{SignatureLines}
use Rattle.texts.proofs.ReadBack.{numbers_below}
use Rattle.sessions.specs.Replies.{sign_spelled, look_spelled}
use Rattle.sessions.specs.Sessions.{power_of, bits_asked, look_answer, Says, Answered, Promised, PromisedStrings}
use Rattle.sessions.specs.declared.session.Session.{Session}

-- a text is only one
says_same : (o : Option (String Global)) (p q : List ℕ) → Says o p → Says o q → p ≡ q
says_same (Some s) p q e f = sym e ∙ f
says_same None p q e f = absurd e

-- of what answers a `look`, only an accepted signature is answered so
look_true : (b : Bool) → look_spelled b ≡ codes "accepted" → b ≡ true
look_true true e = refl
look_true false e = absurd (omega (arith, ap length e))

pub one_digit : (r : Refusal) → refusal_number r < 10
one_digit (TooManyLevels l) = omega arith
one_digit (BadStore k) = omega arith
one_digit (NextKey k) = omega arith
one_digit (Bits n) = omega arith
one_digit (Line k) = omega arith

no_refusal : (r : Refusal) → refusal_spelled r ≡ codes "accepted" → ⊥
no_refusal r e =
    let small = one_digit r in
    let digit = ap (λ (cs : List ℕ). cs ++ (codes " " ++ decimal (refusal_place r))) (decimal_digit (refusal_number r) small) in
    omega (arith, ap (λ (cs : List ℕ). get_or cs 0 0) (sym digit ∙ e), small)

looked : (h : Mix) (s : Session) (r : ℕ) (x : List ℕ) (t : SignatureLines) (g : Result ReadSignature Refusal) → SignatureRead t g → look_answer h s r x g ≡ codes "accepted" →
    (y : ReadSignature) × LinesOf (signature_of y) t
    × ((seed l n : ℕ) → r ≡ node h n seed l 0 → Own h seed l n s.tree.signer.levels (bits_asked h s x) (signature_of y) ⊎ LocatedCollision h n seed l (bits_asked h s x) (signature_of y))
looked h s r x t (Ok y) read e =
    let k = s.tree.signer.levels in
    let bs = bits_asked h s x in
    let yes_so = look_true (accepted h r k bs (signature_of y)) e in
    (y, read, λ seed l n root. own_or_located_lem h seed l n k bs (signature_of y) (subst (λ (v : ℕ). accepted h v k bs (signature_of y) ≡ true) root yes_so))
looked h s r x t (Err f) read e = absurd (no_refusal f e)

-- the bits that are signed are as many as were asked for
bits_count : (h : Mix) (s : Session) (x : List ℕ) (i : ℕ) → Key i ≡ answer s.tree.signer.levels (vec_items s.store) s.tree.bits (power_of s.power) → length (bits_asked h s x) ≡ s.tree.bits
bits_count h s x i e =
    let none = (key_answered s.tree.signer.levels (vec_items s.store) s.tree.bits (power_of s.power) i e).0 in
    let few = bits_taken s.tree.bits (taken s.tree.signer.levels (vec_items s.store) s.tree.bits none).3 in
    length-map-range_with_len (bit_at (bytes_of (h (text_row x)))) 0 (min s.tree.bits 256) ∙ omega (arith, few.1)

signs : (h : Mix) (s : Session) (x : List ℕ) (i : ℕ) → Key i ≡ answer s.tree.signer.levels (vec_items s.store) s.tree.bits (power_of s.power) →
    accepted h (node h s.tree.bits (value_of s.tree.signer.seed) s.tree.signer.levels 0) s.tree.signer.levels (bits_asked h s x) (signed h (value_of s.tree.signer.seed) s.tree.signer.levels i (bits_asked h s x)) ≡ true
signs h s x i e =
    let l = s.tree.signer.levels in
    let seed = value_of s.tree.signer.seed in
    let bs = bits_asked h s x in
    let k = key_answered l (vec_items s.store) s.tree.bits (power_of s.power) i e in
    let below = ltb-true _ _ k.1 in
    subst (λ (n : ℕ). accepted h (node h n seed l 0) l bs (signed h seed l i bs) ≡ true) (bits_count h s x i e) (own_accepted_lem h seed l i bs (omega (arith, k.2, below)))

pub promised : (h : Mix) (s : Session) (c : Command) (t : SignatureLines) (o : Option (String Global)) → Answered h s c t o → Promised h s c t o
promised h s (Store v) t o a = tt
promised h s (Levels v) t o a = tt
promised h s Root t o a = tt
promised h s (Sign x) t o a = λ i e.
    let l = s.tree.signer.levels in
    let m = vec_items s.store in
    let sig : ℕ → List ℕ = λ (k : ℕ). signature_text (signed h (value_of s.tree.signer.seed) l k (bits_asked h s (vec_items x))) in
    let next_is = (key_answered l m s.tree.bits (power_of s.power) i e).2 in
    let text = ap (λ (d : Done). sign_spelled d (signed h (value_of s.tree.signer.seed) l (next m) (bits_asked h s (vec_items x)))) (sym e) ∙ ap sig (sym next_is) in
    (subst (λ (cs : List ℕ). Says o cs) text a, signs h s (vec_items x) i e)
promised h s (Look r x) t o a = λ e.
    looked h s (value_of r) (vec_items x) t a.0 a.1 (says_same o _ _ a.2 e)
promised h s (Power k) t o a = tt
promised h s Slot t o a = tt
promised h s State t o a = tt

-- at SHA-256 with byte strings
pub promised_strings : (s : Session) (c : Command) (t : SignatureLines) (o : Option (String Global)) → Promised row_hash s c t o → PromisedStrings s c t o
promised_strings s (Look r x) t o p = λ e.
    let y = p e in
    (y.0, y.1, λ seed l n root. as_strings seed l n s.tree.signer.levels (bits_asked row_hash s (vec_items x)) (signature_of y.0) (numbers_below y.0) (y.2 seed l n root))
promised_strings s c t o p = p
