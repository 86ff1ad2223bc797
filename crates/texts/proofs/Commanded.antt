-- A line is at most one sort of command: the first three letters tell which.
use Rattle.std.proofs.Common.{◌≡◌, ℕ, ◌+◌, ◌*◌, List, ◌++◌, get_or, vec_items, codes, sym, ap, ◌∙◌, subst, arith}
use Rattle.std.proofs.lemmas.List.{append_cancel_left}
use Rattle.texts.specs.Commands.{LevelsSpelled, StoreSpelled, Spelled}
use Rattle.texts.specs.declared.command.Command.{Command}
use Rattle.texts.specs.declared.command.Command.TheVariants.{Store, Levels, Root, Sign, Look, Power, Slot, State}
use Rattle.tree.specs.declared.own.Tree.{Tree}

abbrev letters : List ℕ → ℕ
letters cs = 65536 * get_or cs 0 0 + 256 * get_or cs 1 0 + get_or cs 2 0

abbrev sort_of : Command → ℕ
sort_of (Store v) = letters (codes "sto")
sort_of (Levels v) = letters (codes "lev")
sort_of Root = letters (codes "roo")
sort_of (Sign t) = letters (codes "sig")
sort_of (Look r t) = letters (codes "loo")
sort_of (Power k) = letters (codes "pow")
sort_of Slot = letters (codes "slo")
sort_of State = letters (codes "sta")

pub sorted : (cs : List ℕ) (c : Command) → Spelled cs c → letters cs ≡ sort_of c
sorted cs (Store v) s = ap letters s.1
sorted cs (Levels v) s = ap letters s.1
sorted cs Root s = ap letters s
sorted cs (Sign t) s = ap letters s
sorted cs (Look r t) s = ap letters s
sorted cs (Power k) s = ap letters s.1
sorted cs Slot s = ap letters s
sorted cs State s = ap letters s

-- a line that begins as one sort does and cannot be read on is no command
pub no_levels : (cs rest : List ℕ) → cs ≡ codes "levels " ++ rest → ((v : Tree) → LevelsSpelled rest v → ⊥) → (c : Command) → Spelled cs c → ⊥
no_levels cs rest e none (Levels v) s =
    none v (subst (λ (t : List ℕ). LevelsSpelled t v) (append_cancel_left (codes "levels ") s.0 rest (sym s.1 ∙ e)) s.2)
no_levels cs rest e none (Store v) s = omega (arith, ap letters e, sorted cs (Store v) s)
no_levels cs rest e none Root s = omega (arith, ap letters e, sorted cs Root s)
no_levels cs rest e none (Sign t) s = omega (arith, ap letters e, sorted cs (Sign t) s)
no_levels cs rest e none (Look r t) s = omega (arith, ap letters e, sorted cs (Look r t) s)
no_levels cs rest e none (Power k) s = omega (arith, ap letters e, sorted cs (Power k) s)
no_levels cs rest e none Slot s = omega (arith, ap letters e, sorted cs Slot s)
no_levels cs rest e none State s = omega (arith, ap letters e, sorted cs State s)

pub no_store : (cs rest : List ℕ) → cs ≡ codes "store" ++ rest → ((vs : List ℕ) → StoreSpelled rest vs → ⊥) → (c : Command) → Spelled cs c → ⊥
no_store cs rest e none (Store v) s =
    none (vec_items v) (subst (λ (t : List ℕ). StoreSpelled t (vec_items v)) (append_cancel_left (codes "store") s.0 rest (sym s.1 ∙ e)) s.2)
no_store cs rest e none (Levels v) s = omega (arith, ap letters e, sorted cs (Levels v) s)
no_store cs rest e none Root s = omega (arith, ap letters e, sorted cs Root s)
no_store cs rest e none (Sign t) s = omega (arith, ap letters e, sorted cs (Sign t) s)
no_store cs rest e none (Look r t) s = omega (arith, ap letters e, sorted cs (Look r t) s)
no_store cs rest e none (Power k) s = omega (arith, ap letters e, sorted cs (Power k) s)
no_store cs rest e none Slot s = omega (arith, ap letters e, sorted cs Slot s)
no_store cs rest e none State s = omega (arith, ap letters e, sorted cs State s)
