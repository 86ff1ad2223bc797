-- How the lines that ask for something are written. Assumes nothing: these are definitions.
use Rattle.std.specs.Prelude.{◌≡◌, ℕ, ◌^◌, Bool, eqb, ◌⊎◌, List, ◌∷◌, ◌++◌, map, Some, vec_items, codes}
use Rattle.tree.specs.declared.own.Tree.{Tree}
use Rattle.std.specs.List.{flat_map, starts_with}
use Rattle.std.specs.Str.Iter.{LacksByte}
use Rattle.hash.specs.Members.{In}
use Rattle.hash.specs.Value.{value_of}
use Rattle.hash.specs.declared.number.Number.{Number}
use Rattle.hash.specs.Hex.{hex}
use Rattle.reading.specs.Spaced.{Begins}
use Rattle.reading.specs.Spelling.{decimal_of, Plain}
use Rattle.texts.specs.declared.command.Command.{Command}
use Rattle.texts.specs.declared.command.Command.TheVariants.{Store, Levels, Root, Sign, Look, Power, Slot, State}

-- a decimal below 2^64, a word, and the rest
abbrev pub DecimalBefore : (cs word : List ℕ) → ℕ → List ℕ → Type 0
DecimalBefore cs word v rest = (d : List ℕ) × (cs ≡ d ++ (word ++ rest)) × (decimal_of (2 ^ 64) d ≡ Some v)

-- three decimals, with the words between them; the seed is any number
abbrev pub LevelsSpelled : List ℕ → Tree → Type 0
LevelsSpelled cs t =
    (x : List ℕ) × (y : List ℕ) × DecimalBefore cs (codes " bits ") t.signer.levels x × DecimalBefore x (codes " seed ") t.bits y
    × (decimal_of (2 ^ 256) y ≡ Some (value_of t.signer.seed))

-- decimals below 2^32, each after one space
abbrev pub StoreSpelled : List ℕ → List ℕ → Type 0
StoreSpelled cs vs = (ws : List (List ℕ)) × (cs ≡ flat_map (λ w. 32 ∷ w) ws) × (map (decimal_of (2 ^ 32)) ws ≡ map (λ v. Some v) vs)

-- the four lines behind a line belong to it: its first word is `look`, alone or with a space behind it
abbrev pub takes_four : List ℕ → Bool
takes_four cs = starts_with eqb (cs ++ codes " ") (codes "look ")

-- a line is a command, written out
abbrev pub Spelled : List ℕ → Command → Type 0
Spelled cs (Store v) = (rest : List ℕ) × (cs ≡ codes "store" ++ rest) × StoreSpelled rest (vec_items v)
Spelled cs (Levels v) = (rest : List ℕ) × (cs ≡ codes "levels " ++ rest) × LevelsSpelled rest v
Spelled cs Root = cs ≡ codes "root"
Spelled cs (Sign t) = cs ≡ codes "sign " ++ vec_items t
Spelled cs (Look r t) = cs ≡ codes "look " ++ (hex r.bytes ++ (codes " " ++ vec_items t))
Spelled cs (Power k) = (ds : List ℕ) × (cs ≡ codes "power " ++ ds) × (decimal_of (2 ^ 64) ds ≡ Some k)
Spelled cs Slot = cs ≡ codes "slot"
Spelled cs State = cs ≡ codes "state"

-- a line that memory is asked for: for the text of a `sign` or of a `look`, or for the numbers of a `store`
abbrev pub AsksMemory : List ℕ → Type 0
AsksMemory cs =
    ((t : List ℕ) × (cs ≡ codes "sign " ++ t))
    ⊎ ((r : Number) × (t : List ℕ) × (cs ≡ codes "look " ++ (hex r.bytes ++ (codes " " ++ t))))
    ⊎ ((rest : List ℕ) × (cs ≡ codes "store" ++ rest) × Begins (λ w v. decimal_of (2 ^ 32) w ≡ Some v) rest)

-- a command is the store of these numbers
abbrev pub IsStoreOf : List ℕ → Command → Type 0
IsStoreOf vs (Store v) = vec_items v ≡ vs
IsStoreOf vs c = ⊥

-- a line is `store` and words with no 0 in front, but for 0 itself, each after one space
abbrev pub PlainStore : List ℕ → Type 0
PlainStore cs = (ws : List (List ℕ)) × (cs ≡ codes "store" ++ flat_map (λ w. 32 ∷ w) ws) × ((w : List ℕ) → In w ws → LacksByte 32 w × Plain w)
