-- What is printed. Assumes nothing: these are definitions.
use Rattle.std.specs.Prelude.{ℕ, Bool, true, false, List, Ok, Err, codes, Result}
use Rattle.hash.specs.Hex.{hex}
use Rattle.hash.specs.Value.{bytes_of, value_of}
use Rattle.hash.specs.declared.number.Number.{Number}
use Rattle.keys.specs.Refusals.{refusal_spelled}
use Rattle.keys.specs.declared.refusal.Refusal.{Refusal}
use Rattle.signatures.specs.Lines.{signature_text}
use Rattle.signatures.specs.Signatures.{Signature}
pub use Rattle.reading.specs.Spaced.{counts_line}
use Rattle.counter.specs.declared.answer.Done.{Done}
use Rattle.counter.specs.declared.answer.Done.TheVariants.{Key, Cut, Empty, Refused}

-- the answer to `root`
abbrev pub root_spelled : Result Number Refusal → List ℕ
root_spelled (Ok v) = hex (bytes_of (value_of v))
root_spelled (Err r) = refusal_spelled r

-- the answer to `sign`, where g is the signature that the room holds
abbrev pub sign_spelled : Done → Signature → List ℕ
sign_spelled (Key i) g = signature_text g
sign_spelled Cut g = codes "cut"
sign_spelled Empty g = codes "all given"
sign_spelled (Refused r) g = refusal_spelled r

-- the answer to `look`
abbrev pub look_spelled : Bool → List ℕ
look_spelled true = codes "accepted"
look_spelled false = codes "no"
