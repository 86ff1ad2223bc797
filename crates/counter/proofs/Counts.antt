-- What any request leaves of the count.
use Rattle.std.proofs.Common.{◌≡◌, ℕ, ◌+◌, ◌≤◌, Bool, true, List, Some, None, Option, refl, sym, ◌∙◌, arith}
use Rattle.std.proofs.lemmas.Bool.Decides.{nat_tests}
use Rattle.keys.specs.declared.refusal.Refusal.{Refusal}
use Rattle.counter.specs.Answers.{unrefused, unless_refused}
use Rattle.counter.specs.Reserving.{ForPower, Asked, Counts}
use Rattle.counter.specs.Store.{next, sound, step, gives}
use Rattle.counter.specs.declared.answer.Done.{Done}
use Rattle.counter.specs.declared.answer.Done.TheVariants.{Key}
use Rattle.counter.specs.declared.write.Write.{Write}
use Rattle.counter.proofs.Counting.{kept}

-- a step keeps a store sound, its next key never falls, and it is one more where the key was given
pub step_kept : (l : ℕ) (m : List ℕ) (w : ℕ) → sound m ≡ true →
    (sound (step l m w) ≡ true) × (next m ≤ next (step l m w)) × (gives l m w ≡ true → next (step l m w) ≡ next m + 1)
step_kept l m w s = grind (arith, nat_tests, kept w m s)

given_by : (l w i : ℕ) (m : List ℕ) → Key i ≡ unrefused l m w None → (gives l m w ≡ true) × (i ≡ next m)
given_by l w i m e = grind arith

-- by the first refusal, where a store of which nothing is refused is sound
counts_by : (o : Option Refusal) (l w : ℕ) (m : List ℕ) → (None ≡ o → sound m ≡ true) → Counts m (unrefused l m w o) (unless_refused o m (step l m w))
counts_by (Some r) l w m f = record { keeps = λ s. (s, omega arith); given = λ i e. absurd cc }
counts_by None l w m f =
    let k = step_kept l m w (f refl) in
    record {
      keeps = λ _. (k.0, k.1);
      given = λ i e. let b = given_by l w i m (sym e) in (b.1, k.2 b.0 ∙ omega (arith, b.1));
    }

asked_counts : (o : Option Refusal) (l w : ℕ) (m : List ℕ) (d : Done) (ws ws₁ : List Write) (m₁ : List ℕ) → (None ≡ o → sound m ≡ true) → Asked o l m d ws ws₁ m₁ w → Counts m d m₁
asked_counts o l w m d ws ws₁ m₁ f a = rw (a.answer, a.held) (counts_by o l w m f)

pub counts : (sure : Bool) (k : ℕ) (o : Option Refusal) (l : ℕ) (m : List ℕ) (d : Done) (ws ws₁ : List Write) (m₁ : List ℕ) → (None ≡ o → sound m ≡ true) → ForPower sure k (Asked o l m d ws ws₁ m₁) → Counts m d m₁
counts sure k o l m d ws ws₁ m₁ f a = asked_counts o l a.0 m d ws ws₁ m₁ f a.3
