-- How a signature is printed, by the codes of ASCII. Assumes nothing: these are definitions.
use Rattle.std.specs.Prelude.{ℕ, List, ◌∷◌, ◌++◌, codes, decimal}
use Rattle.std.specs.List.{flat_map}
use Rattle.hash.specs.Hex.{hex}
use Rattle.hash.specs.Value.{bytes_of}
use Rattle.signatures.specs.Signatures.{Signature}

-- a line of numbers: a word, and each number in sixteens after one space
abbrev pub numbers_line : List ℕ → List ℕ → List ℕ
numbers_line word vs = word ++ flat_map (λ v. 32 ∷ hex (bytes_of v)) vs

-- the four lines of a signature, with a newline before each but the first
abbrev pub signature_text : Signature → List ℕ
signature_text g =
    codes "key " ++ (decimal g.key ++ (numbers_line (codes "\nparts") g.parts ++ (numbers_line (codes "\nothers") g.others ++ numbers_line (codes "\npath") g.path)))
