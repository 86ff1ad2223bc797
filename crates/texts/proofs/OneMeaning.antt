-- A line is one command only, up to what the command means; and four lines are read as one signature only, or refused for one line only.
use Rattle.std.proofs.Common.{◌≡◌, ℕ, zero, suc, ◌^◌, ◌<◌, List, ◌++◌, vec_items, Ok, Err, Bor, Result, codes, sym, refl, ap, ◌∙◌, subst, arith}
use Rattle.std.proofs.lemmas.List.{append_cancel_left}
use Rattle.hash.specs.Hex.{hex}
use Rattle.hash.specs.Value.{worth, value_of}
use Rattle.hash.specs.declared.number.Number.{Number}
use Rattle.keys.specs.declared.refusal.Refusal.{Refusal}
use Rattle.keys.specs.declared.refusal.Refusal.TheVariants.{Line}
use Rattle.tree.specs.declared.own.Tree.{Tree}
use Rattle.signatures.specs.Signatures.{Signature}
use Rattle.reading.proofs.Cuts.{hex_whole, same_word}
use Rattle.reading.proofs.Printed.{counts_told, hex_told}
use Rattle.texts.specs.Commands.{DecimalBefore, LevelsSpelled, StoreSpelled, Spelled}
use Rattle.texts.specs.SignatureLines.{LinesAre, line_after, signature_of, LinesOf, Readable, SignatureRead}
use Rattle.texts.specs.declared.command.Command.{Command}
use Rattle.texts.specs.declared.command.Command.TheVariants.{Store, Levels, Root, Sign, Look, Power, Slot, State}
use Rattle.texts.specs.declared.signature.ReadSignature.{ReadSignature}
use Rattle.texts.specs.declared.signature.SignatureLines.{SignatureLines}
use Rattle.texts.proofs.Commanded.{sorted}
use Rattle.texts.proofs.Cuts.{one_number, before_same, stored_words}

-- trees of the same levels, bits and seed
abbrev pub SameTree : Tree → Tree → Type 0
SameTree v w = (v.signer.levels ≡ w.signer.levels) × (v.bits ≡ w.bits) × (value_of v.signer.seed ≡ value_of w.signer.seed)

-- commands that ask the same
abbrev pub SameCommand : Command → Command → Type 0
SameCommand (Store v) (Store w) = vec_items v ≡ vec_items w
SameCommand (Levels v) (Levels w) = SameTree v w
SameCommand Root Root = Unit {0}
SameCommand (Sign x) (Sign y) = vec_items x ≡ vec_items y
SameCommand (Look r x) (Look q y) = (value_of r ≡ value_of q) × (vec_items x ≡ vec_items y)
SameCommand (Power k) (Power j) = k ≡ j
SameCommand Slot Slot = Unit {0}
SameCommand State State = Unit {0}
SameCommand c d = ⊥

pub one_tree : (cs : List ℕ) (v w : Tree) → LevelsSpelled cs v → LevelsSpelled cs w → SameTree v w
one_tree cs v w (x, y, a, b, c) (u, z, d, e, f) =
    let first = before_same cs (codes " bits ") v.signer.levels w.signer.levels x u refl a d in
    let second = before_same x (codes " seed ") v.bits w.bits y z refl b (subst (λ (t : List ℕ). DecimalBefore t (codes " seed ") w.bits z) (sym first.1) e) in
    (first.0, second.0, one_number (2 ^ 256) y z (value_of v.signer.seed) (value_of w.signer.seed) second.1 c f)

one_store : (cs us vs : List ℕ) → StoreSpelled cs us → StoreSpelled cs vs → us ≡ vs
one_store cs us vs a b = counts_told (2 ^ 32) (omega arith) cs us vs (stored_words cs us a) (stored_words cs vs b)

one_root : (r q : Number) (xs ys : List ℕ) → hex r.bytes ++ (codes " " ++ xs) ≡ hex q.bytes ++ (codes " " ++ ys) → (value_of r ≡ value_of q) × (xs ≡ ys)
one_root r q xs ys e =
    let same = same_word (hex r.bytes) (hex q.bytes) (codes " " ++ xs) (codes " " ++ ys) (hex_whole r.bytes) (hex_whole q.bytes) (λ h. refl) (λ h. refl) e in
    (ap worth (hex_told r.bytes q.bytes (r.sized ∙ sym q.sized) r.digits q.digits same.0), append_cancel_left (codes " ") xs ys same.1)

-- what stands behind the same word in the same line
behind : (word cs xs ys : List ℕ) → cs ≡ word ++ xs → cs ≡ word ++ ys → xs ≡ ys
behind word cs xs ys a b = append_cancel_left word xs ys (sym a ∙ b)

pub one_command : (cs : List ℕ) (c d : Command) → Spelled cs c → Spelled cs d → SameCommand c d
one_command cs (Store v) (Store w) (x, a, s) (y, b, t) =
    one_store x (vec_items v) (vec_items w) s (subst (λ (u : List ℕ). StoreSpelled u (vec_items w)) (behind (codes "store") cs y x b a) t)
one_command cs (Levels v) (Levels w) (x, a, s) (y, b, t) = one_tree x v w s (subst (λ (u : List ℕ). LevelsSpelled u w) (behind (codes "levels ") cs y x b a) t)
one_command cs Root Root a b = tt
one_command cs (Sign x) (Sign y) a b = behind (codes "sign ") cs (vec_items x) (vec_items y) a b
one_command cs (Look r x) (Look q y) a b = one_root r q (vec_items x) (vec_items y) (behind (codes "look ") cs _ _ a b)
one_command cs (Power k) (Power j) (x, a, s) (y, b, t) = one_number (2 ^ 64) x y k j (behind (codes "power ") cs x y a b) s t
one_command cs Slot Slot a b = tt
one_command cs State State a b = tt
one_command cs c d a b = absurd (omega (arith, sorted cs c a, sorted cs d b))

-- lines alone, wherever they stand
abbrev pub lines_alone : SignatureLines → SignatureLines
lines_alone t =
    let line : Bor (List ℕ) → Bor (List ℕ) = λ b. record { ref_ptr = (0, 0); now = b.now } in
    record { first = t.first; key = line t.key; parts = line t.parts; others = line t.others; path = line t.path }

pub same_lines : (t u : SignatureLines) (n : ℕ) (ls : List (List ℕ)) → LinesAre t n ls → LinesAre u n ls → lines_alone t ≡ lines_alone u
same_lines t u n ls (a, b, c, d, e) (v, w, x, y, z) = cc

pub same_read : (t u : SignatureLines) (r : Result ReadSignature Refusal) → lines_alone t ≡ lines_alone u → SignatureRead u r → SignatureRead t r
same_read t u r e a = subst (λ (x : SignatureLines). SignatureRead x r) (sym e) a

-- each line of a signature can be read
readable : (t : SignatureLines) (g : Signature) (k : ℕ) → LinesOf g t → Readable t k
readable t g zero a = (g.key, a.0)
readable t g (suc zero) a = (g.parts, a.1)
readable t g (suc (suc zero)) a = (g.others, a.2)
readable t g (suc (suc (suc k))) a = (g.path, a.3)

pub read_or_refused : (t : SignatureLines) (s : ReadSignature) (r : Refusal) → SignatureRead t (Ok s) → SignatureRead t (Err r) → ⊥
read_or_refused t s r a (k, four, before, none, e) = none (readable t (signature_of s) k a)

pub one_refusal : (t : SignatureLines) (r q : Refusal) → SignatureRead t (Err r) → SignatureRead t (Err q) → r ≡ q
one_refusal t r q (k, four, before, none, e) (j, four', before', none', f) =
    let above : j < k → ⊥ = λ h. none' (before j h) in
    let below : k < j → ⊥ = λ h. none (before' k h) in
    let same : k ≡ j = omega arith in
    e ∙ (ap (λ (i : ℕ). Line (line_after t.first i)) same ∙ sym f)
