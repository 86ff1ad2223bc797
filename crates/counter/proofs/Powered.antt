-- What holds with power for a number of writes, or for fewer.
use Rattle.std.proofs.Common.{◌≡◌, ℕ, ◌<◌, ◌≤◌, Bool, true, false, if◌then◌else◌, ltb, List, Some, None, Ok, Err, Option, refl, sym, ap, ◌∙◌, subst, arith}
use Rattle.std.proofs.lemmas.Bool.Decides.{nat_tests}
use Rattle.std.proofs.lemmas.List.{append-nil}
use Rattle.std.specs.Prelude.{⊤}
use Rattle.keys.specs.Refusals.{levels_refusal, Unless}
use Rattle.keys.specs.declared.refusal.Refusal.{Refusal}
use Rattle.keys.proofs.Refused.{unrefused}
use Rattle.tree.specs.Tree.{power}
use Rattle.counter.specs.Answers.{reserve_refusal, unrefused as answer_by}
use Rattle.counter.specs.Reserving.{ForPower, Written, Asked}
use Rattle.counter.specs.Store.{next, sound}
use Rattle.counter.specs.declared.answer.Done.TheVariants.{Key, Cut, Empty, Refused}
use Rattle.counter.specs.declared.store.Store.{Store}
use Rattle.counter.specs.declared.write.Write.{Write}

-- from any number of writes, and from one that the others give
pub for_any : (sure : Bool) (n : ℕ) (P : ℕ → Type 0) → ((w : ℕ) → P w) → ForPower sure n P
for_any sure n P f = (n, omega arith, λ _. refl, f n)

pub from_power : (sure : Bool) (n : ℕ) (P Q : ℕ → Type 0) → ((w : ℕ) → P w → Q w) → ForPower sure n P → ForPower sure n Q
from_power sure n P Q f (w, few, all, p) = (w, few, all, f w p)

-- where nothing but power fails it is that number
pub at_power : (sure : Bool) (n : ℕ) (P : ℕ → Type 0) → sure ≡ true → ForPower sure n P → P n
at_power sure n P e (w, few, all, p) = subst P (all e) p

-- what is known where other things fail, too
pub less_sure : (sure b : Bool) (n : ℕ) (P : ℕ → Type 0) → (b ≡ true → sure ≡ true) → ForPower sure n P → ForPower b n P
less_sure sure b n P f (w, few, all, p) = (w, few, λ e. all (f e), p)

-- a request that is refused writes nothing, nor does one that finds all keys given
pub refused_asked : (sure : Bool) (k : ℕ) (o : Option Refusal) (l : ℕ) (m : List ℕ) (ws : List Write) (r : Refusal) → Unless {T = ⊤} o (Err r) (λ _. ⊤) → ForPower sure k (Asked o l m (Refused r) ws ws m)
refused_asked sure k (Some e) l m ws r u = for_any sure k _ (λ w. record { answer = ap (λ (x : Refusal). Refused x) u; writes = sym (append-nil ws); held = refl })
refused_asked sure k None l m ws r u = absurd u

pub empty_asked : (sure : Bool) (k : ℕ) (o : Option Refusal) (l key : ℕ) (m : List ℕ) (ws : List Write) → None ≡ o → key ≡ next m → false ≡ ltb key (power l) → ForPower sure k (Asked o l m Empty ws ws m)
empty_asked sure k o l key m ws e q f =
    let g : false ≡ ltb (next m) (power l) = rw q at f in
    for_any sure k _ (λ w. rw (sym e) (record { answer = rw (sym g) refl; writes = rw (sym g) (sym (append-nil ws)); held = rw (sym g) refl }))

-- where a key is left it is given if both numbers were written, and else power failed
pub key_asked : (sure : Bool) (k : ℕ) (o : Option Refusal) (l key : ℕ) (m m₁ : List ℕ) (ws ws₁ : List Write) (b : Bool) → None ≡ o → key ≡ next m → true ≡ ltb key (power l) → ForPower sure k (Written m b ws ws₁ m₁) →
    ForPower sure k (Asked o l m (if b then Key key else Cut) ws ws₁ m₁)
key_asked sure k o l key m m₁ ws ws₁ b e q f =
    let g : true ≡ ltb (next m) (power l) = rw q at f in
    from_power sure k _ _ (λ w p. rw (sym e) (record { answer = rw (q, sym g, p.both) refl; writes = rw (sym g) p.writes; held = rw (sym g) p.held }))

-- all that a request has passed which is not refused
pub reserve_taken : (l : ℕ) (m : List ℕ) → None ≡ reserve_refusal l m → (None ≡ levels_refusal l) × (sound m ≡ true) × (next m ≤ power l)
reserve_taken l m e = grind (arith, nat_tests)

-- a store that was admitted is what the cells hold
pub admitted : (l : ℕ) (numbers m : List ℕ) (s : Store) → Unless (reserve_refusal l numbers) (Ok s) (λ (t : Store). t.cells ≡ numbers) → numbers ≡ m → (None ≡ reserve_refusal l m) × (s.cells ≡ m)
admitted l numbers m s u e =
    let a = unrefused (reserve_refusal l numbers) s (λ (t : Store). t.cells ≡ numbers) u in (rw e at a.0, a.1 ∙ e)

-- a key that is given is one of the tree's
key_below : (l w key : ℕ) (m : List ℕ) (o : Option Refusal) → Key key ≡ answer_by l m w o → key < power l
key_below l w key m (Some r) e = absurd cc
key_below l w key m None e = grind (arith, nat_tests)

pub given_below : (sure : Bool) (k : ℕ) (o : Option Refusal) (l : ℕ) (m : List ℕ) (key : ℕ) (ws ws₁ : List Write) (m₁ : List ℕ) → ForPower sure k (Asked o l m (Key key) ws ws₁ m₁) → key < power l
given_below sure k o l m key ws ws₁ m₁ p = key_below l p.0 key m o p.3.answer
