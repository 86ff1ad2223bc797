-- What one turn says: of the count, of the levels, bits and seed, and where a key or `accepted` is printed.
use Rattle.std.proofs.Common.{◌≡◌, ℕ, ◌+◌, ◌^◌, ◌<◌, Bool, true, false, ◌⊎◌, inl, inr, List, [], ◌∷◌, ◌++◌, get_or, None, Some, Ok, Err, Option, Result, String, vec_items, string_bytes, codes, length, sym, refl, ap, ◌∙◌, subst, arith}
use Rattle.std.specs.Option.{option_map}
use Rattle.std.specs.declared.alloc.Global.{Global}
use Rattle.std.proofs.lemmas.Bool.{ltb-true}
use Rattle.hash.specs.Hex.{hex}
use Rattle.hash.specs.Value.{bytes_of, value_of}
use Rattle.hash.proofs.Numbers.{bounded, bytes_back}
use Rattle.sha256.specs.Rows.{row_hash}
use Rattle.keys.specs.Refusals.{tree_refusal}
use Rattle.keys.specs.declared.refusal.Refusal.{Refusal}
use Rattle.keys.specs.declared.refusal.Refusal.TheVariants.{Line}
use Rattle.keys.proofs.Refused.{levels_taken}
use Rattle.tree.specs.Tree.{node}
use Rattle.tree.specs.declared.own.Tree.{Tree}
use Rattle.tree.proofs.Powers.{few_keys}
use Rattle.signatures.specs.Lines.{signature_text}
use Rattle.signatures.specs.Signatures.{Signature, signed, accepted}
use Rattle.counter.specs.Reserving.{KeepsCount, Counts}
use Rattle.counter.specs.Store.{next, sound}
use Rattle.counter.specs.declared.answer.Done.{Done}
use Rattle.counter.specs.declared.answer.Done.TheVariants.{Key, Cut, Empty, Refused}
use Rattle.counter.proofs.Counts.{counts}
use Rattle.signer.specs.Answers.{answer, stored, refusal}
use Rattle.signer.proofs.Entries.{taken, key_answered}
use Rattle.texts.specs.Bits.{bits_of_text}
use Rattle.texts.specs.Commands.{LevelsSpelled, StoreSpelled, Spelled}
use Rattle.texts.specs.SignatureLines.{line_after, KeySpelled, LinesAre, AreSignature, LinesOf, signature_of}
use Rattle.texts.proofs.ReadBack.{read_fits}
use Rattle.texts.specs.declared.command.Command.{Command}
use Rattle.texts.specs.declared.command.Command.TheVariants.{Store, Levels, Root, Sign, Look, Power, Slot, State}
use Rattle.texts.specs.declared.signature.ReadSignature.{ReadSignature}
use Rattle.texts.specs.declared.signature.SignatureLines.{SignatureLines}
use Rattle.sessions.specs.Replies.{sign_spelled, look_spelled}
use Rattle.sessions.specs.Sessions.{Says, FewerWrites, Executed, Answered, refusal_or, power_of, look_answer}
use Rattle.sessions.specs.declared.session.Session.{Session}
use Rattle.sessions.proofs.Promised.{promised, promised_strings}
use Rattle.runs.specs.Turns.{Turn}
use Rattle.runs.specs.Steps.{Readable, Turned}
use Rattle.runs.specs.Promises.{Begins, IsStore, IsLevels, PrintsKey, SignsText, LooksAtOwn}
use Rattle.runs.proofs.Printed.{Other, by_first, refusal_other, refused_or, number_other, key_named}

-- What is said of the store and of the tree alone holds with power for fewer writes too.
pub as_said : (P : Tree → List ℕ → Type 0) (b : Bool) (c : Command) (s r : Session) → FewerWrites b c s r → P r.tree (vec_items r.store) → P s.tree (vec_items s.store)
as_said P false (Sign t) s r (inl e) p = subst (λ (x : Session). P x.tree (vec_items x.store)) e p
as_said P false (Sign t) s r (inr (w, few, e)) p = subst (λ (x : Session). P x.tree (vec_items x.store)) e p
as_said P false c s r e p = subst (λ (x : Session). P x.tree (vec_items x.store)) e p
as_said P true c s r e p = subst (λ (x : Session). P x.tree (vec_items x.store)) e p

-- The count: no turn but a `store` line puts it back.
signed_counts : (l n w : ℕ) (m : List ℕ) → Counts m (answer l m n w) (stored l m n w)
signed_counts l n w m = counts true w (refusal l m n) l m (answer l m n w) [] _ (stored l m n w) (λ e. (taken l m n e).1) (w, omega arith, λ _. refl, record { answer = refl; writes = refl; held = refl })

same_store : (m m₁ : List ℕ) → m₁ ≡ m → KeepsCount m m₁
same_store m m₁ e s = (ap sound e ∙ s, omega (arith, ap next e))

counts_by : (b : Bool) (c : Command) (line : List ℕ) (s s₁ : Session) → Readable b line c → Executed s c s₁ → (b ≡ true → (rest vs : List ℕ) → line ≡ codes "store" ++ rest → StoreSpelled rest vs → ⊥) →
    KeepsCount (vec_items s.store) (vec_items s₁.store)
counts_by b (Store v) line s s₁ (e, sp) done none = absurd (none e sp.0 (vec_items v) sp.1 sp.2)
counts_by b (Sign x) line s s₁ sp done none =
    subst (KeepsCount (vec_items s.store)) (sym done.0) (signed_counts s.tree.signer.levels s.tree.bits (power_of s.power) (vec_items s.store)).keeps
counts_by b c line s s₁ sp done none = same_store _ _ done.0

pub counted : (b : Bool) (n : ℕ) (s s₁ : Session) (t : Turn) → Turned b n s t s₁ → (b ≡ true → IsStore t → ⊥) → KeepsCount (vec_items s.store) (vec_items s₁.store)
counted b n s s₁ t (line, behind, e, inl (c, four, o, r, few, sp, lines, done, said, p)) none =
    let counts = counts_by b c line r s₁ sp done (λ memory rest vs is spells. none memory (rest, vs, (behind, e ∙ ap (λ (cs : List ℕ). cs ∷ behind) is), spells)) in
    as_said (λ _ m. KeepsCount m (vec_items s₁.store)) b c s r few counts
counted b n s s₁ t (line, behind, e, inr (unread, p, done)) none = same_store _ _ done.0

-- The levels, bits and seed: a `levels` line sets them, and no other turn does. Of all commands `levels` alone has an e in second place.
abbrev pub NotLevels : Turn → Type 0
NotLevels t = (l n seed : ℕ) → IsLevels t l n seed → ⊥

abbrev pub AskedNext : Turn → (before after : Tree) → Type 0
AskedNext t a a₁ = IsLevels t a₁.signer.levels a₁.bits (value_of a₁.signer.seed) ⊎ (NotLevels t × (a₁ ≡ a))

not_levels : (t : Turn) (line : List ℕ) (behind : List (List ℕ)) → t.typed ≡ line ∷ behind → ((rest : List ℕ) (v : Tree) → line ≡ codes "levels " ++ rest → LevelsSpelled rest v → ⊥) → NotLevels t
not_levels t line behind e none l n seed (rest, v, (others, f), spelled, el, en, es) =
    let same = sym e ∙ f in
    let first : line ≡ codes "levels " ++ rest = cc in none rest v first spelled

no_e : (w line : List ℕ) → line ≡ w → (get_or w 1 0 ≡ 101 → ⊥) → (rest : List ℕ) (v : Tree) → line ≡ codes "levels " ++ rest → LevelsSpelled rest v → ⊥
no_e w line is other rest v levels spelled = other (ap (λ (cs : List ℕ). get_or cs 1 0) (sym is ∙ levels))

levelled_by : (c : Command) (t : Turn) (line : List ℕ) (behind : List (List ℕ)) (s s₁ : Session) → t.typed ≡ line ∷ behind → Spelled line c → Executed s c s₁ → AskedNext t s.tree s₁.tree
levelled_by (Levels v) t line behind s s₁ e sp done =
    inl (subst (λ (a : Tree). IsLevels t a.signer.levels a.bits (value_of a.signer.seed)) (sym done.1) (sp.0, v, (behind, e ∙ ap (λ (x : List ℕ). x ∷ behind) sp.1), sp.2, refl, refl, refl))
levelled_by (Store v) t line behind s s₁ e sp done = inr (not_levels t line behind e (no_e _ line sp.1 (λ c. omega (arith, c))), done.1)
levelled_by (Power k) t line behind s s₁ e sp done = inr (not_levels t line behind e (no_e _ line sp.1 (λ c. omega (arith, c))), done.1)
levelled_by c t line behind s s₁ e sp done = inr (not_levels t line behind e (no_e _ line sp (λ c. omega (arith, c))), done.1)

pub levelled : (b : Bool) (n : ℕ) (s s₁ : Session) (t : Turn) → Turned b n s t s₁ → AskedNext t s.tree s₁.tree
levelled b n s s₁ t (line, behind, e, inl (c, four, o, r, few, sp, lines, done, said, p)) =
    as_said (λ a _. AskedNext t a s₁.tree) b c s r few (levelled_by c t line behind r s₁ e sp.1 done)
levelled b n s s₁ t (line, behind, e, inr (unread, p, done)) = inr (not_levels t line behind e (λ rest v is spells. unread (Levels v) (refl, (rest, is, spells))), done.1)

-- What is printed. A key is printed where a `sign` is answered with the next one.
abbrev pub own_signature : Tree → (text : List ℕ) → (key : ℕ) → Signature
own_signature a text k = signed row_hash (value_of a.signer.seed) a.signer.levels k (bits_of_text row_hash text a.bits)

abbrev pub AcceptedFor : Tree → (text : List ℕ) → (key : ℕ) → Type 0
AcceptedFor a text k =
    accepted row_hash (node row_hash a.bits (value_of a.signer.seed) a.signer.levels 0) a.signer.levels (bits_of_text row_hash text a.bits) (own_signature a text k) ≡ true

pub record Signs (a : Tree) (m : List ℕ) (t : Turn) (s₁ : Session) (k : ℕ) : Type 0 where
  pub own : SignsText t a.signer.levels a.bits (value_of a.signer.seed) k
  pub small : k < 2 ^ 64
  pub was_next : k ≡ next m
  pub now_next : next (vec_items s₁.store) ≡ k + 1
  pub stays_sound : sound (vec_items s₁.store) ≡ true

-- what it tells that a text begins with a k, or is `accepted`
pub record Shown (a : Tree) (m : List ℕ) (t : Turn) (s₁ : Session) : Type 0 where
  pub signs : (cs : List ℕ) → t.printed ≡ Some cs → get_or cs 0 0 ≡ 107 → (k : ℕ) × Signs a m t s₁ k
  pub looks : t.printed ≡ Some (codes "accepted") → LooksAtOwn t a.signer.levels a.bits

silent : (s s₁ : Session) (t : Turn) → t.printed ≡ None → Shown s.tree (vec_items s.store) t s₁
silent s s₁ t p = record { signs = λ cs e. absurd cc; looks = λ e. absurd cc }

quiet : (s s₁ : Session) (t : Turn) (cs : List ℕ) → t.printed ≡ Some cs → Other cs → Shown s.tree (vec_items s.store) t s₁
quiet s s₁ t cs p other =
    record {
      signs = λ ds e k. let same : cs ≡ ds = cc in absurd (other.0 (ap (λ (x : List ℕ). get_or x 0 0) same ∙ k));
      looks = λ e. let same : cs ≡ codes "accepted" = cc in absurd (other.1 same);
    }

said_text : (o : Option (String Global)) (cs : List ℕ) → Says o cs → option_map string_bytes o ≡ Some cs
said_text (Some x) cs e = ap Some e
said_text None cs e = absurd e

text_said : (o : Option (String Global)) (cs : List ℕ) → option_map string_bytes o ≡ Some cs → Says o cs
text_said (Some x) cs e = cc
text_said None cs e = absurd cc

sign_shown : (s s₁ : Session) (t : Turn) (x : List ℕ) (d : Done) → Begins t (codes "sign " ++ x) →
    vec_items s₁.store ≡ stored s.tree.signer.levels (vec_items s.store) s.tree.bits (power_of s.power) →
    d ≡ answer s.tree.signer.levels (vec_items s.store) s.tree.bits (power_of s.power) →
    t.printed ≡ Some (sign_spelled d (own_signature s.tree x (next (vec_items s.store)))) →
    ((k : ℕ) → Key k ≡ answer s.tree.signer.levels (vec_items s.store) s.tree.bits (power_of s.power) → AcceptedFor s.tree x k) → Shown s.tree (vec_items s.store) t s₁
sign_shown s s₁ t x (Key k) begins held is p good =
    let l = s.tree.signer.levels in
    let m = vec_items s.store in
    let at = key_answered l m s.tree.bits (power_of s.power) k is in
    let passed = taken l m s.tree.bits at.0 in
    let count = signed_counts l s.tree.bits (power_of s.power) m in
    let text : t.printed ≡ Some (signature_text (own_signature s.tree x k)) = p ∙ ap (λ (j : ℕ). Some (signature_text (own_signature s.tree x j))) (sym at.2) in
    let few = few_keys l (levels_taken l passed.0) in
    let below = ltb-true _ _ at.1 in
    record {
      signs = λ cs e first. (
        k,
        record {
          own = (x, begins, text, good k is);
          small = omega (arith, few, below, at.2);
          was_next = at.2;
          now_next = ap next held ∙ (count.given k (sym is)).1;
          stays_sound = ap sound held ∙ (count.keeps passed.1).0;
        },
      );
      looks = λ e.
          let same : signature_text (own_signature s.tree x k) ≡ codes "accepted" = cc in
          absurd (omega (arith, ap (λ (cs : List ℕ). get_or cs 0 0) same));
    }
sign_shown s s₁ t x Cut begins held is p good = quiet s s₁ t (codes "cut") p (by_first (codes "cut") (λ e. omega (arith, e)) (λ e. omega (arith, e)))
sign_shown s s₁ t x Empty begins held is p good = quiet s s₁ t (codes "all given") p ((λ e. omega (arith, e)), (λ e. omega (arith, ap length e)))
sign_shown s s₁ t x (Refused r) begins held is p good = quiet s s₁ t _ p (refusal_other r)

look_first : (b : Bool) → get_or (look_spelled b) 0 0 ≡ 107 → ⊥
look_first true e = omega (arith, e)
look_first false e = omega (arith, e)

looked_first : (s : Session) (r : ℕ) (x : List ℕ) (g : Result ReadSignature Refusal) → get_or (look_answer row_hash s r x g) 0 0 ≡ 107 → ⊥
looked_first s r x (Ok g) = look_first (accepted row_hash r s.tree.signer.levels (bits_of_text row_hash x s.tree.bits) (signature_of g))
looked_first s r x (Err e) = (refusal_other e).0

are_signature : (four : SignatureLines) (first : ℕ) (behind : List (List ℕ)) (g : Signature) → LinesAre four first behind → LinesOf g four → AreSignature behind g
are_signature four first behind g lines parts =
    (subst (λ (cs : List ℕ). KeySpelled cs g.key) lines.1 parts.0, sym lines.2 ∙ parts.1, sym lines.3 ∙ parts.2, sym lines.4 ∙ parts.3)

shown_by : (c : Command) (t : Turn) (line : List ℕ) (behind : List (List ℕ)) (four : SignatureLines) (first : ℕ) (o : Option (String Global)) (s s₁ : Session) → t.typed ≡ line ∷ behind →
    Spelled line c → LinesAre four first behind → Executed s c s₁ → Answered row_hash s c four o → t.printed ≡ option_map string_bytes o → Shown s.tree (vec_items s.store) t s₁
shown_by Root t line behind four first o s s₁ e sp lines done said p =
    quiet s s₁ t _ (p ∙ said_text o _ said) (refused_or (tree_refusal s.tree.signer.levels s.tree.bits) _ (number_other (node row_hash s.tree.bits (value_of s.tree.signer.seed) s.tree.signer.levels 0)))
shown_by (Sign x) t line behind four first o s s₁ e sp lines done said p =
    sign_shown s s₁ t (vec_items x) _ (behind, e ∙ ap (λ (cs : List ℕ). cs ∷ behind) sp) done.0 refl (p ∙ said_text o _ said) (λ k is. (promised row_hash s (Sign x) four o said k is).1)
shown_by (Look r x) t line behind four first o s s₁ e sp lines done said p =
    record {
      signs = λ cs f k.
          let text : t.printed ≡ Some (look_answer row_hash s (value_of r) (vec_items x) said.0) = p ∙ said_text o _ said.2 in
          let same : look_answer row_hash s (value_of r) (vec_items x) said.0 ≡ cs = cc in
          absurd (looked_first s (value_of r) (vec_items x) said.0 (ap (λ (c : List ℕ). get_or c 0 0) same ∙ k));
      looks = λ f.
          let y = promised_strings s (Look r x) four o (promised row_hash s (Look r x) four o said) (text_said o _ (sym p ∙ f)) in
          let typed = e ∙ ap (λ (cs : List ℕ). cs ∷ behind) (sp ∙ ap (λ (bs : List ℕ). codes "look " ++ (hex bs ++ (codes " " ++ vec_items x))) (bytes_back r)) in
          (value_of r, vec_items x, behind, signature_of y.0, bounded r, typed, are_signature four first behind (signature_of y.0) lines y.1, read_fits y.0 four y.1, y.2);
    }
shown_by Slot t line behind four first o s s₁ e sp lines done said p = quiet s s₁ t _ (p ∙ said_text o _ said) (by_first _ (λ c. omega (arith, c)) (λ c. omega (arith, c)))
shown_by State t line behind four first o s s₁ e sp lines done said p = quiet s s₁ t _ (p ∙ said_text o _ said) (by_first _ (λ c. omega (arith, c)) (λ c. omega (arith, c)))
shown_by c t line behind four first o s s₁ e sp lines done said p = silent s s₁ t (p ∙ ap (option_map string_bytes) said)

pub shown : (b : Bool) (n : ℕ) (s s₁ : Session) (t : Turn) → Turned b n s t s₁ → Shown s.tree (vec_items s.store) t s₁
shown b n s s₁ t (line, behind, e, inl (c, four, o, r, few, sp, lines, done, said, p)) =
    as_said (λ a m. Shown a m t s₁) b c s r few (shown_by c t line behind four (line_after n 1) o r s₁ e sp.1 lines done said p)
shown b n s s₁ t (line, behind, e, inr (unread, p, done)) = quiet s s₁ t _ p (refusal_other (Line n))

pub key_printed : (b : Bool) (n k : ℕ) (s s₁ : Session) (t : Turn) → Turned b n s t s₁ → PrintsKey t k → Signs s.tree (vec_items s.store) t s₁ k
unfolding signed
key_printed b n k s s₁ t turn (line, rest, p, named) =
    let first = ap (λ (cs : List ℕ). get_or (cs ++ (10 ∷ rest)) 0 0) named.1 in
    let found = (shown b n s s₁ t turn).signs (line ++ (10 ∷ rest)) p first in
    let sign = found.1 in
    let text = sign.own.2 in
    let same : signature_text (own_signature s.tree sign.own.0 found.0) ≡ line ++ (10 ∷ rest) = cc in
    subst (Signs s.tree (vec_items s.store) t s₁) (key_named (own_signature s.tree sign.own.0 found.0) line rest k sign.small same named) sign

-- What answers a `root` line. Of all commands `root` alone begins with an r.
abbrev pub RootSaid : Tree → Turn → Type 0
RootSaid a t = t.printed ≡ Some (refusal_or (tree_refusal a.signer.levels a.bits) (hex (bytes_of (node row_hash a.bits (value_of a.signer.seed) a.signer.levels 0))))

no_root : {P : Type 0} (w line : List ℕ) → line ≡ w → line ≡ codes "root" → (get_or w 0 0 ≡ 114 → ⊥) → P
no_root w line is root other = absurd (other (ap (λ (cs : List ℕ). get_or cs 0 0) (sym is ∙ root)))

root_by : (c : Command) (t : Turn) (line : List ℕ) (four : SignatureLines) (o : Option (String Global)) (s : Session) → line ≡ codes "root" → Spelled line c → Answered row_hash s c four o →
    t.printed ≡ option_map string_bytes o → RootSaid s.tree t
root_by Root t line four o s e sp said p = p ∙ said_text o _ said
root_by (Store v) t line four o s e sp said p = no_root _ line sp.1 e (λ c. omega (arith, c))
root_by (Levels v) t line four o s e sp said p = no_root _ line sp.1 e (λ c. omega (arith, c))
root_by (Power k) t line four o s e sp said p = no_root _ line sp.1 e (λ c. omega (arith, c))
root_by c t line four o s e sp said p = no_root _ line sp e (λ c. omega (arith, c))

pub root_said : (b : Bool) (n : ℕ) (s s₁ : Session) (t : Turn) → Turned b n s t s₁ → Begins t (codes "root") → RootSaid s.tree t
root_said b n s s₁ t (line, behind, e, inl (c, four, o, r, few, sp, lines, done, said, p)) (others, f) =
    let first : line ≡ codes "root" = ap (λ (ls : List (List ℕ)). get_or ls 0 []) (sym e ∙ f) in
    as_said (λ a _. RootSaid a t) b c s r few (root_by c t line four o r first sp.1 said p)
root_said b n s s₁ t (line, behind, e, inr (unread, p, done)) (others, f) =
    absurd (unread Root (refl, ap (λ (ls : List (List ℕ)). get_or ls 0 []) (sym e ∙ f)))
