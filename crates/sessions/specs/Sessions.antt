-- What a command is answered, and what it leaves of the session. For every hash h, and the last for SHA-256. Assumes nothing: these are definitions.
use Rattle.std.specs.Prelude.{◌≡◌, ℕ, ◌≤◌, Bool, true, false, ◌⊎◌, List, Some, None, Ok, Err, vec_items, string_bytes, codes, Option, Result, String, MatchOption}
use Rattle.std.specs.Option.{unwrap_or}
use Rattle.hash.specs.Hex.{hex}
use Rattle.hash.specs.Mix.{Mix}
use Rattle.hash.specs.Value.{bytes_of, value_of}
use Rattle.sha256.specs.Rows.{row_hash}
use Rattle.keys.specs.Refusals.{tree_refusal, refusal_spelled}
use Rattle.keys.specs.declared.refusal.Refusal.{Refusal}
use Rattle.tree.specs.Tree.{node}
use Rattle.tree.specs.declared.own.Tree.{Tree}
use Rattle.signatures.specs.Lines.{signature_text}
use Rattle.signatures.specs.Rows.{LocatedCollision}
use Rattle.signatures.specs.Signatures.{signed, accepted}
use Rattle.signer.specs.Answers.{answer, stored}
use Rattle.signer.specs.Promises.{Own}
use Rattle.digests.specs.Digests.{LocatedStrings}
use Rattle.counter.specs.Cells.{DiskState}
use Rattle.counter.specs.Reserving.{KeepsCount, InStep}
use Rattle.counter.specs.Store.{next, counting}
use Rattle.counter.specs.declared.answer.Done.TheVariants.{Key}
use Rattle.std.specs.declared.alloc.Global.{Global}
use Rattle.texts.specs.Bits.{bits_of_text}
use Rattle.texts.specs.SignatureLines.{signature_of, LinesOf, SignatureRead}
use Rattle.texts.specs.declared.command.Command.{Command}
use Rattle.texts.specs.declared.command.Command.TheVariants.{Store, Levels, Root, Sign, Look, Power, Slot, State}
use Rattle.texts.specs.declared.signature.ReadSignature.{ReadSignature}
use Rattle.texts.specs.declared.signature.SignatureLines.{SignatureLines}
use Rattle.sessions.specs.Replies.{sign_spelled, look_spelled, counts_line}
use Rattle.sessions.specs.declared.session.Session.{Session}

-- a session has that store, that tree, and power for so many writes at the next `sign`
abbrev pub Has : Session → List ℕ → Tree → Option ℕ → Type 0
Has s m t p = (vec_items s.store ≡ m) × (s.tree ≡ t) × (s.power ≡ p)

-- for how many writes power lasts at a `sign`: as many as was said, or else as many as a number of the program can say, which is more than any `sign` makes
abbrev pub power_of : Option ℕ → ℕ
power_of p = unwrap_or p 18446744073709551615

-- all is as it was
abbrev pub Unchanged : (before after : Session) → Type 0
Unchanged s s₁ = Has s₁ (vec_items s.store) s.tree s.power

-- what a `sign` leaves: the store with the next key reserved where one is given, the tree as it was, and power that lasts
abbrev pub AfterSign : (before after : Session) → Type 0
AfterSign s s₁ = Has s₁ (stored s.tree.signer.levels (vec_items s.store) s.tree.bits (power_of s.power)) s.tree None

-- Where a store is kept on a disk, a `sign` may find power for fewer writes than was said, since a write that fails is a cut. So a command in the session s does and answers what it does in memory in a session r, which is s, or s with power for fewer writes
abbrev pub FewerWrites : (in_memory : Bool) → Command → (s r : Session) → Type 0
FewerWrites false (Sign t) s r = (r ≡ s) ⊎ ((w : ℕ) × (w ≤ power_of s.power) × (r ≡ record s { power = Some w }))
FewerWrites b c s r = r ≡ s

-- what a command leaves of a session: for how many writes power lasts is changed by `power` and `sign` alone
abbrev pub Executed : Session → Command → Session → Type 0
Executed s (Store v) s₁ = Has s₁ (vec_items v) s.tree s.power
Executed s (Levels t) s₁ = Has s₁ (vec_items s.store) t s.power
Executed s (Power k) s₁ = Has s₁ (vec_items s.store) s.tree (Some k)
Executed s (Sign t) s₁ = AfterSign s s₁
Executed s c s₁ = Unchanged s s₁

-- what a command leaves where memory fails: all is as it was, or, of a `sign` alone, what it leaves otherwise, with the power that r has, so a key that was reserved stays so
abbrev pub Failed : (s r : Session) → Command → Session → Type 0
Failed s r (Sign t) s₁ = Unchanged s s₁ ⊎ AfterSign r s₁
Failed s r c s₁ = Unchanged s s₁

-- no command but `store` puts the count back, whatever it is answered, and also where memory fails: a sound store stays sound, and its next key never gets smaller
abbrev pub Counted : Session → Command → Session → Type 0
Counted s (Store v) s₁ = Unit {0}
Counted s c s₁ = KeepsCount (vec_items s.store) (vec_items s₁.store)

-- and it leaves the disk on which a store is kept in step with it, if it was: the disk holds what the store holds, and what may be found of it by whoever reads it anew is sound, with a next key that is no smaller
abbrev pub StaysInStep : (in_memory : Bool) → Command → DiskState → Session → DiskState → Session → Type 0
StaysInStep true c d s d₁ s₁ = Unit {0}
StaysInStep false (Store v) d s d₁ s₁ = Unit {0}
StaysInStep false c d s d₁ s₁ = InStep d (vec_items s.store) → InStep d₁ (vec_items s₁.store)

-- the bits of a text that the session's keys sign
abbrev pub bits_asked : Mix → Session → (text : List ℕ) → List Bool
bits_asked h s t = bits_of_text h t s.tree.bits

-- a refusal, or else that text
abbrev pub refusal_or : Option Refusal → List ℕ → List ℕ
refusal_or (Some r) cs = refusal_spelled r
refusal_or None cs = cs

-- the answer to `root`
abbrev pub root_answer : Mix → Session → List ℕ
root_answer h s =
    refusal_or (tree_refusal s.tree.signer.levels s.tree.bits) (hex (bytes_of (node h s.tree.bits (value_of s.tree.signer.seed) s.tree.signer.levels 0)))

-- the answer to `sign`: the signature is by the next key
abbrev pub sign_answer : Mix → Session → (text : List ℕ) → List ℕ
sign_answer h s t =
    sign_spelled (answer s.tree.signer.levels (vec_items s.store) s.tree.bits (power_of s.power))
    (signed h (value_of s.tree.signer.seed) s.tree.signer.levels (next (vec_items s.store)) (bits_asked h s t))

-- the answer to `look`, by what was read of the lines behind it
abbrev pub look_answer : Mix → Session → (root : ℕ) → (text : List ℕ) → Result ReadSignature Refusal → List ℕ
look_answer h s r t (Ok g) = look_spelled (accepted h r s.tree.signer.levels (bits_asked h s t) (signature_of g))
look_answer h s r t (Err e) = refusal_spelled e

-- a text is given, and it is this one
abbrev pub Says : Option (String Global) → List ℕ → Type 0
Says o cs = MatchOption o ⊥ (λ s. string_bytes s ≡ cs)

-- what a command is answered, given the lines behind it: nothing to `store`, `levels` and `power`
abbrev pub Answered : Mix → Session → Command → SignatureLines → Option (String Global) → Type 0
Answered h s (Store v) t o = o ≡ None
Answered h s (Levels a) t o = o ≡ None
Answered h s Root t o = Says o (root_answer h s)
Answered h s (Sign x) t o = Says o (sign_answer h s (vec_items x))
Answered h s (Look r x) t o = (g : Result ReadSignature Refusal) × SignatureRead t g × Says o (look_answer h s (value_of r) (vec_items x) g)
Answered h s (Power k) t o = o ≡ None
Answered h s Slot t o = Says o (counts_line (codes "slot") (counting (vec_items s.store)))
Answered h s State t o = Says o (counts_line (codes "store") (vec_items s.store))

-- What is promised of the answers, above how they are worked out. A signature that is printed is accepted, for its text and the session's own root. And where `accepted` is printed, the lines are those of a signature that is, of every signer whose root this is, the signer's own for just these bits; or a row that looking at it hashes and one of the signer's own tree differ and hash to the same
abbrev pub Promised : Mix → Session → Command → SignatureLines → Option (String Global) → Type 0
Promised h s (Sign x) t o =
    let seed = value_of s.tree.signer.seed in
    let l = s.tree.signer.levels in
    let bs = bits_asked h s (vec_items x) in
    (i : ℕ) → Key i ≡ answer l (vec_items s.store) s.tree.bits (power_of s.power) →
    Says o (signature_text (signed h seed l i bs)) × (accepted h (node h s.tree.bits seed l 0) l bs (signed h seed l i bs) ≡ true)
Promised h s (Look r x) t o =
    let bs = bits_asked h s (vec_items x) in
    Says o (codes "accepted") →
    (g : ReadSignature) × LinesOf (signature_of g) t
    × ((seed l n : ℕ) → value_of r ≡ node h n seed l 0 → Own h seed l n s.tree.signer.levels bs (signature_of g) ⊎ LocatedCollision h n seed l bs (signature_of g))
Promised h s c t o = Unit {0}

-- What is promised where the hash is SHA-256. Where `accepted` is printed, the lines are those of a signature that is, of every signer whose root this is, the signer's own for just these bits; or two byte strings differ and have the same SHA-256, one hashed in looking at it and one in the signer's own tree. All else is as for every hash
abbrev pub PromisedStrings : Session → Command → SignatureLines → Option (String Global) → Type 0
PromisedStrings s (Look r x) t o =
    let bs = bits_asked row_hash s (vec_items x) in
    Says o (codes "accepted") →
    (g : ReadSignature) × LinesOf (signature_of g) t
    × ((seed l n : ℕ) → value_of r ≡ node row_hash n seed l 0 → Own row_hash seed l n s.tree.signer.levels bs (signature_of g) ⊎ LocatedStrings n seed l bs (signature_of g))
PromisedStrings s c t o = Promised row_hash s c t o
