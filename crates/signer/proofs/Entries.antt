-- What a request has passed that is not refused, and where a key is answered; and a key that is asked for alone.
use Rattle.std.proofs.Common.{◌≡◌, ℕ, ◌≤◌, Bool, true, ltb, List, length, Some, None, Ok, Option, refl, sym, ap, ◌∙◌, subst, arith}
use Rattle.std.proofs.lemmas.Bool.Decides.{nat_tests}
use Rattle.std.specs.Prelude.{⊤}
use Rattle.hash.specs.Mix.{Mix}
use Rattle.keys.specs.Refusals.{first, levels_refusal, bits_refusal, tree_refusal, Unless}
use Rattle.keys.specs.declared.refusal.Refusal.{Refusal}
use Rattle.keys.proofs.Refused.{unrefused}
use Rattle.tree.specs.Tree.{power, node}
use Rattle.signatures.specs.Signatures.{Signature, signed, accepted}
use Rattle.signatures.specs.Views.{held, MadeIn}
use Rattle.signatures.specs.declared.room.SignatureRoom.{SignatureRoom}
use Rattle.signatures.proofs.Own.{own_accepted_lem}
use Rattle.counter.specs.Answers.{reserve_refusal, unrefused as answer_by, unless_refused}
use Rattle.counter.specs.Reserving.{ForPower, Asked}
use Rattle.counter.specs.Store.{next, sound, step}
use Rattle.counter.specs.declared.answer.Done.{Done}
use Rattle.counter.specs.declared.answer.Done.TheVariants.{Key, Cut, Empty, Refused}
use Rattle.counter.specs.declared.write.Write.{Write}
use Rattle.counter.proofs.Powered.{given_below}
use Rattle.signer.specs.Answers.{refusal, answer, RoomSays}
use Rattle.signer.specs.Promises.{ReserveAsSign}

-- all that a request has passed which is not refused
pub taken : (l : ℕ) (m : List ℕ) (n : ℕ) → None ≡ refusal l m n → (None ≡ levels_refusal l) × (sound m ≡ true) × (next m ≤ power l) × (None ≡ bits_refusal n)
taken l m n e = grind (arith, nat_tests)

reserve_unrefused : (l n : ℕ) (m : List ℕ) → None ≡ refusal l m n → None ≡ reserve_refusal l m
reserve_unrefused l n m e = grind arith

-- where a key is answered, nothing is refused, a key is left, and it is the next one
pub key_answered : (l : ℕ) (m : List ℕ) (n w i : ℕ) → Key i ≡ answer l m n w → (None ≡ refusal l m n) × (ltb (next m) (power l) ≡ true) × (i ≡ next m)
key_answered l m n w i e = grind arith

first_none : (o : Option Refusal) → o ≡ first o None
first_none (Some r) = refl
first_none None = refl

-- a request for a key, where nothing of the one to sign is refused
pub asked_as_sign : (sure : Bool) (k l n : ℕ) (numbers m : List ℕ) (d : Done) (ws ws₁ : List Write) (m₁ : List ℕ) → Unless {T = ⊤} (refusal l numbers n) (Ok tt) (λ _. ⊤) → numbers ≡ m →
    ForPower sure k (Asked (reserve_refusal l m) l m d ws ws₁ m₁) → ForPower sure k (Asked (refusal l m n) l m d ws ws₁ m₁)
asked_as_sign sure k l n numbers m d ws ws₁ m₁ u read a =
    let none = (unrefused {T = ⊤} (refusal l numbers n) tt (λ _. ⊤) u).0 ∙ ap (λ (x : List ℕ). refusal l x n) read in
    subst (λ (o : Option Refusal). ForPower sure k (Asked o l m d ws ws₁ m₁)) (sym (reserve_unrefused l n m none) ∙ none) a

-- one bit is never refused
pub reserve_as_sign_lem : ReserveAsSign
reserve_as_sign_lem l w m =
    let e = first_none (reserve_refusal l m) in
    (ap (λ (o : Option Refusal). answer_by l m w o) e, ap (λ (o : Option Refusal). unless_refused o m (step l m w)) e)

-- a room that is as it was, where no key is given
pub room_kept : (h : Mix) (s l : ℕ) (bs : List Bool) (d : Done) (r : SignatureRoom) → ((i : ℕ) → d ≡ Key i → ⊥) → RoomSays h s l bs d r r
room_kept h s l bs (Key i) r n = absurd (n i refl)
room_kept h s l bs Cut r n = refl
room_kept h s l bs Empty r n = refl
room_kept h s l bs (Refused e) r n = refl

-- a signature that was made with a key that was given is accepted
pub made_accepted : (h : Mix) (s l key : ℕ) (bs : List Bool) (r r₁ : SignatureRoom) (sure : Bool) (k : ℕ) (o : Option Refusal) (m m₁ : List ℕ) (ws ws₁ : List Write) →
    Unless {T = ⊤} (tree_refusal l (length bs)) (Ok tt) (λ _. MadeIn (signed h s l key bs) r r₁) → ForPower sure k (Asked o l m (Key key) ws ws₁ m₁) →
    accepted h (node h (length bs) s l 0) l bs (held r₁) ≡ true
made_accepted h s l key bs r r₁ sure k o m m₁ ws ws₁ u a =
    let made = (unrefused {T = ⊤} (tree_refusal l (length bs)) tt (λ _. MadeIn (signed h s l key bs) r r₁) u).1 in
    ap (λ (x : Signature). accepted h (node h (length bs) s l 0) l bs x) made.0 ∙ own_accepted_lem h s l key bs (given_below sure k o l m key ws ws₁ m₁ a)
