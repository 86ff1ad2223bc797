-- What a command does is what it does in a session with as much power, or with less.
use Rattle.std.proofs.Common.{◌≡◌, ℕ, ◌≤◌, Bool, true, false, List, Some, None, Ok, Err, Vec, vec_items, string_bytes, Option, Result, String, sym, refl, ap, ◌∙◌, subst, inl, inr}
use Rattle.std.specs.declared.alloc.Global.{Global}
use Rattle.std.specs.Prelude.{IfOk, MatchResult}
use Rattle.std.specs.declared.alloc.AllocError.{AllocError}
use Rattle.hash.specs.Mix.{Mix}
use Rattle.hash.specs.Value.{value_of}
use Rattle.signatures.specs.Lines.{signature_text}
use Rattle.signatures.specs.Signatures.{signed}
use Rattle.signatures.specs.Views.{held}
use Rattle.signatures.specs.declared.room.SignatureRoom.{SignatureRoom}
use Rattle.counter.specs.Reserving.{ForPower}
use Rattle.counter.specs.Store.{next}
use Rattle.counter.specs.declared.answer.Done.{Done}
use Rattle.counter.specs.declared.answer.Done.TheVariants.{Key, Cut, Empty, Refused}
use Rattle.signer.specs.Answers.{answer, stored, RoomSays}
use Rattle.signer.proofs.Entries.{key_answered}
use Rattle.texts.specs.declared.command.Command.{Command}
use Rattle.texts.specs.declared.command.Command.TheVariants.{Sign}
use Rattle.texts.specs.declared.signature.SignatureLines.{SignatureLines}
use Rattle.sessions.specs.Replies.{sign_spelled}
use Rattle.sessions.specs.Sessions.{power_of, bits_asked, FewerWrites, Executed, Failed, Answered, Promised}
use Rattle.sessions.specs.declared.session.Session.{Session}
use Rattle.sessions.proofs.Promised.{promised}

-- with as much power
itself : (b : Bool) (c : Command) (s : Session) → FewerWrites b c s s
itself false (Sign t) s = inl refl
itself true c s = refl
itself false c s = refl

pub executed : (b : Bool) (h : Mix) (s s₁ : Session) (c : Command) (t : SignatureLines) (o : Option (String Global)) → Executed s c s₁ → Answered h s c t o →
    (r : Session) × FewerWrites b c s r × (Executed r c s₁ × Answered h r c t o × Promised h r c t o)
executed b h s s₁ c t o e a = (s, itself b c s, (e, a, promised h s c t o a))

pub answered : (b : Bool) (h : Mix) (s s₁ : Session) (c : Command) (t : SignatureLines) (x : Result (Option (String Global)) AllocError) → MatchResult x (λ _. Executed s c s₁) (λ _. Failed s s c s₁) → IfOk x (λ o. Answered h s c t o) →
    (r : Session) × FewerWrites b c s r × MatchResult x (λ o. Executed r c s₁ × Answered h r c t o × Promised h r c t o) (λ _. Failed s r c s₁)
answered b h s s₁ c t (Ok o) e a = executed b h s s₁ c t o e a
answered b h s s₁ c t (Err x) f a = (s, itself b c s, f)

-- with as much or with less at a `sign`, whatever holds with each power that comes to so many writes
with_power : (b : Bool) (s : Session) (v : Vec ℕ Global) (P : Session → Type 0) (w : ℕ) → w ≤ power_of s.power → (b ≡ true → w ≡ power_of s.power) → ((p : Option ℕ) → power_of p ≡ w → P (record s { power = p })) →
    (r : Session) × FewerWrites b (Sign v) s r × P r
with_power true s v P w few all f = (s, refl, f s.power (sym (all refl)))
with_power false s v P w few all f = (record s { power = Some w }, inr (w, few, refl), f (Some w) refl)

-- what is printed is the signature by the key that is answered
spelled : (h : Mix) (s l n w : ℕ) (m : List ℕ) (bs : List Bool) (d : Done) (r r₁ : SignatureRoom) → d ≡ answer l m n w → RoomSays h s l bs d r r₁ →
    sign_spelled d (held r₁) ≡ sign_spelled (answer l m n w) (signed h s l (next m) bs)
spelled h s l n w m bs (Key i) r r₁ e made =
    ap signature_text (made.0 ∙ ap (λ (k : ℕ). signed h s l k bs) (key_answered l m n w i e).2) ∙ ap (λ (d : Done). sign_spelled d (signed h s l (next m) bs)) e
spelled h s l n w m bs Cut r r₁ e same = ap (λ (d : Done). sign_spelled d (signed h s l (next m) bs)) e
spelled h s l n w m bs Empty r r₁ e same = ap (λ (d : Done). sign_spelled d (signed h s l (next m) bs)) e
spelled h s l n w m bs (Refused x) r r₁ e same = ap (λ (d : Done). sign_spelled d (signed h s l (next m) bs)) e

-- what a `sign` answers and leaves of the store
abbrev pub Signs : Bool → Session → Done → List ℕ → Type 0
Signs b s d m₁ = ForPower b (power_of s.power) (λ w. (d ≡ answer s.tree.signer.levels (vec_items s.store) s.tree.bits w) × (m₁ ≡ stored s.tree.signer.levels (vec_items s.store) s.tree.bits w))

at_session : (s : Session) (d : Done) (m₁ : List ℕ) (w : ℕ) (p : Option ℕ) → power_of p ≡ w → (d ≡ answer s.tree.signer.levels (vec_items s.store) s.tree.bits w) × (m₁ ≡ stored s.tree.signer.levels (vec_items s.store) s.tree.bits w) →
    (d ≡ answer s.tree.signer.levels (vec_items s.store) s.tree.bits (power_of p)) × (m₁ ≡ stored s.tree.signer.levels (vec_items s.store) s.tree.bits (power_of p))
at_session s d m₁ w p q a = rw q a

pub sign_answered : (b : Bool) (h : Mix) (s s₁ : Session) (c : Command) (v : Vec ℕ Global) (t : SignatureLines) (z : String Global) (d : Done) (text : List ℕ) → c ≡ Sign v → text ≡ vec_items v →
    string_bytes z ≡ sign_spelled d (held s₁.room) → RoomSays h (value_of s.tree.signer.seed) s.tree.signer.levels (bits_asked h s text) d s.room s₁.room → Signs b s d (vec_items s₁.store) → s₁.tree ≡ s.tree → s₁.power ≡ None →
    (r : Session) × FewerWrites b c s r × (Executed r c s₁ × Answered h r c t (Some z) × Promised h r c t (Some z))
sign_answered b h s s₁ c v t z d text e f said room (w, few, all, signs) tree none =
    let bs = bits_asked h s (vec_items v) in
    let here = subst (λ (x : List ℕ). RoomSays h (value_of s.tree.signer.seed) s.tree.signer.levels (bits_asked h s x) d s.room s₁.room) f room in
    let whole = with_power b s v (λ r. Executed r (Sign v) s₁ × Answered h r (Sign v) t (Some z) × Promised h r (Sign v) t (Some z)) w few all
    (λ p q.
    let a = at_session s d (vec_items s₁.store) w p q signs in
    let printed = said ∙ spelled h (value_of s.tree.signer.seed) s.tree.signer.levels s.tree.bits (power_of p) (vec_items s.store) bs d s.room s₁.room a.0 here in
    ((a.1, tree, none), printed, promised h (record s { power = p }) (Sign v) t (Some z) printed)) in
    subst (λ (k : Command). (r : Session) × FewerWrites b k s r × (Executed r k s₁ × Answered h r k t (Some z) × Promised h r k t (Some z))) (sym e) whole

-- where memory fails behind it, what it leaves is left
pub sign_left : (b : Bool) (h : Mix) (s s₁ : Session) (c : Command) (v : Vec ℕ Global) (t : SignatureLines) (x : Result (Option (String Global)) AllocError) (d : Done) (y : AllocError) → c ≡ Sign v → x ≡ Err y →
    Signs b s d (vec_items s₁.store) → s₁.tree ≡ s.tree → s₁.power ≡ None →
    (r : Session) × FewerWrites b c s r × MatchResult x (λ o. Executed r c s₁ × Answered h r c t o × Promised h r c t o) (λ _. Failed s r c s₁)
sign_left b h s s₁ c v t x d y e f (w, few, all, signs) tree none =
    let whole = with_power b s v (λ r. Failed s r (Sign v) s₁) w few all (λ p q. inr ((at_session s d (vec_items s₁.store) w p q signs).1, tree, none)) in
    rw (e, f) whole
