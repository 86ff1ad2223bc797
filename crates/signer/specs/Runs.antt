-- Whole runs: any requests to sign, one after the other, from any store. Assumes nothing: these are definitions.
use Rattle.std.specs.Prelude.{ℕ, Bool, if◌then◌else◌, List, [], ◌∷◌, ◌++◌, map, length, ◌==◌}
use Rattle.hash.specs.Mix.{Mix}
use Rattle.signatures.specs.Signatures.{Signature, signed}
use Rattle.counter.specs.Answers.{done_number, done_values}
use Rattle.signer.specs.Answers.{answer, stored}
use Rattle.counter.specs.declared.answer.Done.{Done}

-- a request: a tree of how many levels, which bits to sign, and for how many writes power lasts
pub record Request : Type 0 where
  pub levels : ℕ
  pub bits : List Bool
  pub lasts : ℕ

-- what it is answered, and the store after it, as the entry's contract has them
abbrev pub answered : List ℕ → Request → Done
answered m q = answer q.levels m (length q.bits) q.lasts

abbrev pub after : List ℕ → Request → List ℕ
after m q = stored q.levels m (length q.bits) q.lasts

-- the key in an answer that gives one
abbrev pub keys_in : Done → List ℕ
keys_in d = if done_number d == 0 then done_values d else []

-- a key that was given, and the request that it was given for
pub record Issued : Type 0 where
  pub key : ℕ
  pub request : Request

-- what an answer gives for a request
abbrev pub issued : Request → Done → List Issued
issued q d = map (λ i. record { key = i; request = q }) (keys_in d)

-- all that is given in a run from the store m, in order
abbrev pub given : List ℕ → List Request → List Issued
given m [] = []
given m (q ∷ qs) = issued q (answered m q) ++ given (after m q) qs

-- the signature that a signer with the seed s gave with that key
abbrev pub signature_given : Mix → (seed : ℕ) → Issued → Signature
signature_given h s a = signed h s a.request.levels a.key a.request.bits
