-- The four lines of a signature, as they are read. Assumes nothing: these are definitions.
use Rattle.std.specs.Prelude.{◌≡◌, ℕ, zero, suc, ◌+◌, ◌^◌, ◌<◌, ◌⊎◌, min, List, [], ◌∷◌, ◌++◌, map, get_or, Some, Ok, Err, vec_items, codes, Result}
use Rattle.hash.specs.Members.{In}
use Rattle.hash.specs.Value.{value_of}
use Rattle.keys.specs.declared.refusal.Refusal.{Refusal}
use Rattle.keys.specs.declared.refusal.Refusal.TheVariants.{Line}
use Rattle.signatures.specs.Signatures.{Signature, numbers}
use Rattle.signatures.specs.Lines.{numbers_line}
use Rattle.reading.specs.Newlines.{lines_of}
use Rattle.reading.specs.Spaced.{NumbersBegin}
use Rattle.reading.specs.Spelling.{decimal_of, Plain}
use Rattle.texts.specs.declared.signature.ReadSignature.{ReadSignature}
use Rattle.texts.specs.declared.signature.SignatureLines.{SignatureLines}

-- one of some lines, counted from 0; one that is not there is empty
abbrev pub line_at : List (List ℕ) → ℕ → List ℕ
line_at ls k = get_or ls k []

-- the first four of some lines, of which the first has that number
abbrev pub LinesAre : SignatureLines → ℕ → List (List ℕ) → Type 0
LinesAre t first ls =
    (t.first ≡ first) × (t.key.now ≡ line_at ls 0) × (t.parts.now ≡ line_at ls 1) × (t.others.now ≡ line_at ls 2) × (t.path.now ≡ line_at ls 3)

-- the number of the line that comes so many after another; numbers of lines end at 2^64 - 1
abbrev pub line_after : ℕ → ℕ → ℕ
line_after n k = min (n + k) 18446744073709551615

-- the signature that was read
abbrev pub signature_of : ReadSignature → Signature
signature_of s =
    record {
      key = s.key;
      parts = map value_of (vec_items s.parts);
      others = map value_of (vec_items s.others);
      path = map value_of (vec_items s.path);
    }

-- the first line: a word and a decimal below 2^64
abbrev pub KeySpelled : List ℕ → ℕ → Type 0
KeySpelled cs k = (ds : List ℕ) × (cs ≡ codes "key " ++ ds) × (decimal_of (2 ^ 64) ds ≡ Some k)

-- four lines are those of a signature
abbrev pub AreSignature : List (List ℕ) → Signature → Type 0
AreSignature ls g =
    KeySpelled (line_at ls 0) g.key
    × (line_at ls 1 ≡ numbers_line (codes "parts") g.parts)
    × (line_at ls 2 ≡ numbers_line (codes "others") g.others)
    × (line_at ls 3 ≡ numbers_line (codes "path") g.path)

-- the four lines
abbrev pub lines : SignatureLines → List (List ℕ)
lines t = t.key.now ∷ t.parts.now ∷ t.others.now ∷ t.path.now ∷ []

-- they are those of a signature
abbrev pub LinesOf : Signature → SignatureLines → Type 0
LinesOf g t = AreSignature (lines t) g

-- that line k can be read
abbrev pub Readable : SignatureLines → ℕ → Type 0
Readable t zero = (k : ℕ) × KeySpelled t.key.now k
Readable t (suc zero) = (vs : List ℕ) × (t.parts.now ≡ numbers_line (codes "parts") vs)
Readable t (suc (suc zero)) = (vs : List ℕ) × (t.others.now ≡ numbers_line (codes "others") vs)
Readable t (suc (suc (suc k))) = (vs : List ℕ) × (t.path.now ≡ numbers_line (codes "path") vs)

-- the signature, or the refusal of the first line that cannot be read, by its number
abbrev pub SignatureRead : SignatureLines → Result ReadSignature Refusal → Type 0
SignatureRead t (Ok s) = LinesOf (signature_of s) t
SignatureRead t (Err r) =
    (k : ℕ) × (k < 4) × ((j : ℕ) → j < k → Readable t j) × (Readable t k → ⊥) × (r ≡ Line (line_after t.first k))

-- there is a number behind the word of some line
abbrev pub HasNumbers : SignatureLines → Type 0
HasNumbers t = NumbersBegin (codes "parts") t.parts.now ⊎ NumbersBegin (codes "others") t.others.now ⊎ NumbersBegin (codes "path") t.path.now

-- its numbers are numbers of the program
abbrev pub Fits : Signature → Type 0
Fits g = (g.key < 2 ^ 64) × ((v : ℕ) → In v (numbers g) → v < 2 ^ 256)

-- the lines are those of a text
abbrev pub FourLines : SignatureLines → List ℕ → Type 0
FourLines t cs = lines_of cs ≡ lines t

-- the key is written as it is printed, with no 0 in front
abbrev pub KeyPlain : SignatureLines → Type 0
KeyPlain t = (ds : List ℕ) × (t.key.now ≡ codes "key " ++ ds) × Plain ds
