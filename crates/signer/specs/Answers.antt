-- What the entry that signs answers, and what it leaves. Assumes nothing: these are definitions.
use Rattle.std.specs.Prelude.{◌≡◌, ℕ, Bool, true, List, length, Option}
use Rattle.hash.specs.Mix.{Mix}
use Rattle.keys.specs.Refusals.{first, bits_refusal}
use Rattle.keys.specs.declared.refusal.Refusal.{Refusal}
use Rattle.tree.specs.Tree.{node}
use Rattle.signatures.specs.Signatures.{signed, accepted}
use Rattle.signatures.specs.Views.{held, MadeIn}
use Rattle.signatures.specs.declared.room.SignatureRoom.{SignatureRoom}
use Rattle.counter.specs.Answers.{reserve_refusal, unrefused, unless_refused}
use Rattle.counter.specs.Store.{step}
use Rattle.counter.specs.declared.answer.Done.{Done}
use Rattle.counter.specs.declared.answer.Done.TheVariants.{Key, Cut, Empty, Refused}

-- the first refusal that applies to signing n bits with a tree of l levels from the store m: those of asking for a key come first
abbrev pub refusal : (levels : ℕ) → List ℕ → (bits : ℕ) → Option Refusal
refusal l m n = first (reserve_refusal l m) (bits_refusal n)

-- the answer, with power for w writes
abbrev pub answer : (levels : ℕ) → List ℕ → (bits writes : ℕ) → Done
answer l m n w = unrefused l m w (refusal l m n)

-- the store afterwards: where the request is refused, as it was
abbrev pub stored : (levels : ℕ) → List ℕ → (bits writes : ℕ) → List ℕ
stored l m n w = unless_refused (refusal l m n) m (step l m w)

-- the room afterwards: where a key is given, the signature by that key was made in it, and else it is as it was
abbrev pub RoomSays : Mix → (seed levels : ℕ) → List Bool → Done → (before after : SignatureRoom) → Type 0
RoomSays h s l bs (Key i) r r₁ = MadeIn (signed h s l i bs) r r₁
RoomSays h s l bs Cut r r₁ = r₁ ≡ r
RoomSays h s l bs Empty r r₁ = r₁ ≡ r
RoomSays h s l bs (Refused e) r r₁ = r₁ ≡ r

-- a signature that is given is accepted, for the signer's own root
abbrev pub GivenAccepted : Mix → (seed levels : ℕ) → List Bool → Done → SignatureRoom → Type 0
GivenAccepted h s l bs (Key i) r = accepted h (node h (length bs) s l 0) l bs (held r) ≡ true
GivenAccepted h s l bs Cut r = Unit {0}
GivenAccepted h s l bs Empty r = Unit {0}
GivenAccepted h s l bs (Refused e) r = Unit {0}
