-- A run so far: what was read is cut into turns, each was answered, and the rest is still to come.
use Rattle.std.proofs.Common.{◌≡◌, ℕ, ◌<◌, Bool, true, false, inl, inr, List, [], ◌∷◌, ◌++◌, map, length, None, Some, Option, Result, IfSome, OnOk, MatchOption, vec_items, sym, refl, ap, ◌∙◌, subst, arith, append_assoc, append-nil}
use Rattle.std.specs.List.{flat_map}
use Rattle.std.proofs.lemmas.Bool.{cond-true, cond-false}
use Rattle.std.proofs.lemmas.List.{length-append, map-append}
use Rattle.std.proofs.lemmas.Option.{same_Some}
use Rattle.std.specs.Io.BufRead.{first_piece, drop_through, DropsThrough}
use Rattle.std.specs.Io.KnownBytes.{Appends, IsAtEnd}
use Rattle.std.proofs.lemmas.Result.{on_ok_weaker}
use Rattle.counter.specs.Cells.{DiskState}
use Rattle.reading.specs.Newlines.{lines_of}
use Rattle.reading.proofs.Pieces.{next_line}
use Rattle.texts.specs.SignatureLines.{line_after}
use Rattle.sessions.specs.declared.session.Session.{Session}
use Rattle.runs.specs.Turns.{whole, last_turn, turns_from, turns_of, Turn, bytes_printed}
use Rattle.runs.specs.Steps.{Turned, Ran, Fresh, taken, EndsTurn, Stepped, Finished, KeptInStep}
use Rattle.runs.specs.Runs.{AppendsFront, LeftOfLast, Run, Ended, KeptOnDisk}
use Rattle.runs.proofs.Appended.{appends_nothing, appends_both}
use Rattle.runs.specs.declared.program.Program.{Program}
use Rattle.runs.proofs.Found.{kept_on_disk}
use Rattle.runs.proofs.Promised.{promised}

abbrev pub typed_of : Turn → List (List ℕ)
typed_of t = t.typed

abbrev pub shown_of : Turn → List ℕ
shown_of t = bytes_printed t.printed

-- one turn more at the end
ran_more : (b : Bool) (ts : List Turn) (n n₁ : ℕ) (s s₁ s₂ : Session) (t : Turn) → Ran b n s ts n₁ s₁ → Turned b n₁ s₁ t s₂ → Ran b n s (ts ++ (t ∷ [])) (line_after n₁ (length t.typed)) s₂
unfolding Ran
ran_more b [] n n₁ s s₁ s₂ t r turned =
    (s₂, subst (λ (x : Session). Turned b n x t s₂) r.1 (subst (λ (k : ℕ). Turned b k s₁ t s₂) r.0 turned), (ap (λ (k : ℕ). line_after k (length t.typed)) r.0, refl))
ran_more b (u ∷ ts) n n₁ s s₁ s₂ t (s₃, first, rest) turned = (s₃, first, ran_more b ts (line_after n (length u.typed)) n₁ s₃ s₁ s₂ t rest turned)

-- what is known of a run where some of the input is left, and some bytes are still to be printed
pub record Progress (b : Bool) (m input left printed bytes : List ℕ) (p : Program) : Type 0 where
  pub turns : List Turn
  pub cut : turns_of (lines_of input) ≡ map typed_of turns ++ turns_from (taken p) (lines_of left)
  pub shown : flat_map shown_of turns ≡ printed ++ bytes
  pub last : LeftOfLast turns bytes
  pub ran : (s : Session) × Fresh m s × Ran b 0 s turns p.number p.session

begun : (b : Bool) (m : List ℕ) (input : List ℕ) (p : Program) → Fresh m p.session → taken p ≡ [] → p.number ≡ 0 → Progress b m input input [] [] p
unfolding Ran
begun b m input p fresh none zero =
    record {
      turns = [];
      cut = ap (λ (ls : List (List ℕ)). turns_from ls (lines_of input)) (sym none);
      shown = refl;
      last = inl refl;
      ran = (p.session, fresh, (zero, refl));
    }

shown_more : (ts : List Turn) (t : Turn) → flat_map shown_of (ts ++ (t ∷ [])) ≡ flat_map shown_of ts ++ bytes_printed t.printed
shown_more [] t = append-nil (bytes_printed t.printed)
shown_more (u ∷ ts) t = ap (λ (cs : List ℕ). shown_of u ++ cs) (shown_more ts t) ∙ sym (append_assoc (shown_of u) (flat_map shown_of ts) (bytes_printed t.printed))

-- a turn that ends, where it is what the lines begin with
ended : (b : Bool) (m : List ℕ) (input left left₁ printed : List ℕ) (p p₁ : Program) (lines : List (List ℕ)) (o : Option (List ℕ)) → (g : Progress b m input left printed [] p) →
    turns_from (taken p) (lines_of left) ≡ lines ∷ turns_from [] (lines_of left₁) → EndsTurn b p lines o p₁ → Progress b m input left₁ printed (bytes_printed o) p₁
ended b m input left left₁ printed p p₁ lines o g next e =
    let t : Turn = record { typed = lines; printed = o } in
    let turn = map-append typed_of g.turns (t ∷ []) in
    let back = ap (λ (xs : List (List (List ℕ))). xs ++ turns_from [] (lines_of left₁)) turn ∙ append_assoc (map typed_of g.turns) (lines ∷ []) (turns_from [] (lines_of left₁)) in
    let none = ap (λ (ls : List (List ℕ)). map typed_of (g.turns ++ (t ∷ [])) ++ turns_from ls (lines_of left₁)) (sym e.1) in
    record {
      turns = g.turns ++ (t ∷ []);
      cut = g.cut ∙ (ap (λ (xs : List (List (List ℕ))). map typed_of g.turns ++ xs) next ∙ (sym back ∙ none));
      shown = shown_more g.turns t ∙ ap (λ (cs : List ℕ). cs ++ bytes_printed o) (g.shown ∙ append-nil printed);
      last = inr (g.turns, t, [], refl, refl);
      ran = (g.ran.0, g.ran.1, subst (λ (k : ℕ). Ran b 0 g.ran.0 (g.turns ++ (t ∷ [])) k p₁.session) (sym e.2) (ran_more b g.turns 0 p.number g.ran.0 p.session p₁.session t g.ran.2 e.0));
    }

more_of : (b : Bool) (m : List ℕ) (w : Bool) (input left left₁ printed line : List ℕ) (p p₁ : Program) (o : Option (List ℕ)) → whole (taken p ++ (line ∷ [])) ≡ w → Progress b m input left printed [] p →
    lines_of left ≡ line ∷ lines_of left₁ → Stepped b p line o p₁ → Progress b m input left₁ printed (bytes_printed o) p₁
unfolding turns_from
more_of b m true input left left₁ printed line p p₁ o w g read s =
    let next = ap (turns_from (taken p)) read ∙ cond-true _ _ _ w in ended b m input left left₁ printed p p₁ (taken p ++ (line ∷ [])) o g next (s.ends w)
more_of b m false input left left₁ printed line p p₁ o w g read s =
    let k = s.waits w in
    let next = ap (turns_from (taken p)) read ∙ (cond-false _ _ _ w ∙ ap (λ (ls : List (List ℕ)). turns_from ls (lines_of left₁)) (sym k.1)) in
    let none = ap bytes_printed k.0 in
    record {
      turns = g.turns;
      cut = g.cut ∙ ap (λ (xs : List (List (List ℕ))). map typed_of g.turns ++ xs) next;
      shown = g.shown ∙ ap (λ (cs : List ℕ). printed ++ cs) (sym none);
      last = inl none;
      ran = (g.ran.0, g.ran.1, subst (λ (n : ℕ). Ran b 0 g.ran.0 g.turns n p₁.session) (sym k.3) (subst (λ (x : Session). Ran b 0 g.ran.0 g.turns p.number x) (sym k.2) g.ran.2));
    }

-- one line more was read, and its answer is to be printed
more : (b : Bool) (m : List ℕ) (input left left₁ printed line : List ℕ) (p p₁ : Program) (o : Option (List ℕ)) → Progress b m input left printed [] p → lines_of left ≡ line ∷ lines_of left₁ → Stepped b p line o p₁ →
    Progress b m input left₁ printed (bytes_printed o) p₁
more b m input left left₁ printed line p p₁ o = more_of b m (whole (taken p ++ (line ∷ []))) input left left₁ printed line p p₁ o refl

-- the end of the input was read, and no line of a turn is waited for
done_of : (b : Bool) (m : List ℕ) (input printed : List ℕ) (ls : List (List ℕ)) (p p₁ : Program) (o : Option (List ℕ)) → taken p ≡ ls → Progress b m input [] printed [] p → Finished b p o p₁ →
    (taken p₁ ≡ []) × Progress b m input [] printed (bytes_printed o) p₁
unfolding turns_from
done_of b m input printed [] p p₁ o e g f =
    let k = f.nothing e in
    (ap taken k.1 ∙ e, subst (λ (q : Program). Progress b m input [] printed (bytes_printed o) q) (sym k.1) (subst (λ (x : Option (List ℕ)). Progress b m input [] printed (bytes_printed x) p) (sym k.0) g))
done_of b m input printed (l ∷ ls) p p₁ o e g f =
    let turn = f.ends (omega (arith, ap length e)) in
    let next : turns_from (taken p) [] ≡ taken p ∷ [] = ap last_turn e ∙ ap (λ (x : List (List ℕ)). x ∷ []) (sym e) in
    (turn.1, ended b m input [] [] printed p p₁ (taken p) o g next turn)

less_left : (ts : List Turn) (bytes front rest : List ℕ) → bytes ≡ front ++ rest → LeftOfLast ts bytes → LeftOfLast ts rest
less_left ts bytes front [] e l = inl refl
less_left ts bytes front (c ∷ rest) e (inl none) = absurd (omega (arith, ap length (sym e ∙ none), length-append front (c ∷ rest)))
less_left ts bytes front (c ∷ rest) e (inr (before, t, first, f, shown)) =
    inr (before, t, first ++ front, f, shown ∙ (ap (λ (cs : List ℕ). first ++ cs) e ∙ sym (append_assoc first front (c ∷ rest))))

-- a front part was written of what is to be printed
written : (b : Bool) (m : List ℕ) (input left printed bytes front rest : List ℕ) (p : Program) → bytes ≡ front ++ rest → Progress b m input left printed bytes p → Progress b m input left (printed ++ front) rest p
written b m input left printed bytes front rest p e g =
    record {
      turns = g.turns;
      cut = g.cut;
      shown = g.shown ∙ (ap (λ (cs : List ℕ). printed ++ cs) e ∙ sym (append_assoc printed front rest));
      last = less_left g.turns bytes front rest e g.last;
      ran = g.ran;
    }

-- the same of bytes that may be known, where these are still to be printed
abbrev pub Known : Bool → List ℕ → (input left before now : Option (List ℕ)) → List ℕ → Program → Type 0
Known b m input left before now bytes p = IfSome input (λ xs. (printed : List ℕ) × Appends before now printed × MatchOption left ⊥ (λ ys. Progress b m xs ys printed bytes p))

pub known_begun : (b : Bool) (m : List ℕ) (input left now : Option (List ℕ)) (p : Program) → left ≡ input → Fresh m p.session → taken p ≡ [] → p.number ≡ 0 → Known b m input left now now [] p
known_begun b m None left now p e fresh none zero = tt
known_begun b m (Some xs) None now p e fresh none zero = absurd cc
known_begun b m (Some xs) (Some ys) now p e fresh none zero =
    ([], appends_nothing now, subst (λ (l : List ℕ). Progress b m xs l [] [] p) (sym (same_Some _ _ e)) (begun b m xs p fresh none zero))

-- a line was read, and taken
pub known_more : (b : Bool) (m : List ℕ) (input left left₁ before now : Option (List ℕ)) (p p₁ : Program) (line : List ℕ) (o : Option (List ℕ)) → Known b m input left before now [] p →
    IfSome left (λ xs. (0 < length xs) × (line ≡ first_piece 10 xs)) → DropsThrough left left₁ 10 → Stepped b p line o p₁ → Known b m input left₁ before now (bytes_printed o) p₁
known_more b m None left left₁ before now p p₁ line o k read dropped s = tt
known_more b m (Some xs) None left₁ before now p p₁ line o k read dropped s = absurd k.2
known_more b m (Some xs) (Some ys) None before now p p₁ line o k read dropped s = absurd cc
known_more b m (Some xs) (Some ys) (Some zs) before now p p₁ line o k read dropped s =
    let rest = same_Some _ _ dropped in
    let next = next_line ys read.0 ∙ (ap (λ (l : List ℕ). l ∷ lines_of (drop_through 10 ys)) (sym read.1) ∙ ap (λ (l : List ℕ). line ∷ lines_of l) (sym rest)) in
    (k.0, k.1, more b m xs ys zs k.0 line p p₁ o k.2 next s)

-- a front part was written of what is to be printed
pub known_written : (b : Bool) (m : List ℕ) (input left before now now₁ : Option (List ℕ)) (bytes rest : List ℕ) (p : Program) → Known b m input left before now bytes p → AppendsFront now now₁ bytes rest → Known b m input left before now₁ rest p
known_written b m None left before now now₁ bytes rest p k a = tt
known_written b m (Some xs) None before now now₁ bytes rest p k a = absurd k.2
known_written b m (Some xs) (Some ys) before now now₁ bytes rest p k a =
    (k.0 ++ a.0, appends_both before now now₁ k.0 a.0 k.1 a.2, written b m xs ys k.0 bytes a.0 rest p a.1 k.2)

-- all of it was
pub known_printed : (b : Bool) (m : List ℕ) (input left before now now₁ : Option (List ℕ)) (bytes rest : List ℕ) (p : Program) → Known b m input left before now bytes p → AppendsFront now now₁ bytes rest → rest ≡ [] →
    Known b m input left before now₁ [] p
known_printed b m input left before now now₁ bytes rest p k a e = subst (λ (l : List ℕ). Known b m input left before now₁ l p) e (known_written b m input left before now now₁ bytes rest p k a)

-- the end of the input was read
pub known_done : (b : Bool) (m : List ℕ) (input left before now : Option (List ℕ)) (p p₁ : Program) (o : Option (List ℕ)) → Known b m input left before now [] p → IsAtEnd left → Finished b p o p₁ →
    Known b m input left before now (bytes_printed o) p₁ × IfSome input (λ _. taken p₁ ≡ [])
known_done b m None left before now p p₁ o k end f = (tt, tt)
known_done b m (Some xs) None before now p p₁ o k end f = absurd k.2
known_done b m (Some xs) (Some ys) before now p p₁ o k end f =
    let d = done_of b m xs k.0 (taken p) p p₁ o refl (subst (λ (l : List ℕ). Progress b m xs l k.0 [] p) end k.2) f in
    ((k.0, k.1, subst (λ (l : List ℕ). Progress b m xs l k.0 (bytes_printed o) p₁) (sym end) d.1), d.0)

-- a run that ends, well or not
pub known_ended : {E : Type 0} (r : Result (Unit {0}) E) (b : Bool) (m : List ℕ) (input left before now : Option (List ℕ)) (bytes : List ℕ) (p : Program) (d d₁ d₂ : DiskState) (m₂ : List ℕ) →
    Known b m input left before now bytes p → KeptInStep b d m d₁ (vec_items p.session.store) → KeptInStep b d₁ (vec_items p.session.store) d₂ m₂ →
    OnOk r (IsAtEnd left × IfSome input (λ _. taken p ≡ []) × (bytes ≡ [])) → Ended b m (KeptOnDisk b m d d₂) input before now r
unfolding turns_from
known_ended r b m None left before now bytes p d d₁ d₂ m₂ k kept since ok = tt
known_ended r b m (Some xs) None before now bytes p d d₁ d₂ m₂ k kept since ok = absurd k.2
known_ended r b m (Some xs) (Some ys) before now bytes p d d₁ d₂ m₂ k kept since ok =
    let g = k.2 in
    let run : Run b m xs k.0 g.turns (turns_from (taken p) (lines_of ys)) bytes = record {
      typed = g.cut;
      shown = g.shown;
      last = g.last;
      answered = (g.ran.0, p.number, p.session, g.ran.1, g.ran.2);
      promised = promised b m g.turns 0 p.number g.ran.0 p.session g.ran.1 g.ran.2;
    } in
    let holds = kept_on_disk b g.turns p.number g.ran.0 p.session d d₁ d₂ m m₂ g.ran.1.0 g.ran.2 kept since in
    (k.0, g.turns, turns_from (taken p) (lines_of ys), bytes, k.1, run, holds, on_ok_weaker r (λ e. (ap (λ (l : List ℕ). turns_from (taken p) (lines_of l)) e.0 ∙ ap last_turn e.1, e.2)) ok)
