-- The lock beside a store's file, and what is said where a file is not opened or made. Assumes nothing: these are definitions.
use Rattle.std.specs.Prelude.{ℕ, List, ◌++◌, None, Some, Option, codes, decimal, string_bytes}
use Rattle.store_files.specs.declared.problem.Problem.{Problem}
use Rattle.store_files.specs.declared.problem.Problem.TheVariants.{Locked, Exists, Open, Length, StandardStream, NotDurable, Io}

-- the path of the lock, by that of the store
abbrev pub lock_path : List ℕ → List ℕ
lock_path store = store ++ codes ".lock"

-- this holds of the path of a lock that is there
abbrev pub IfLocked : Problem → (List ℕ → Type 0) → Type 0
IfLocked (Locked path) P = P (string_bytes path)
IfLocked p P = Unit {0}

-- an error of the system
abbrev pub IsIo : Problem → Type 0
IsIo (Io e) = Unit {0}
IsIo p = ⊥

-- what is said; of an error of the system the library says it
abbrev pub problem_spelled : Problem → Option (List ℕ)
problem_spelled (Locked path) = Some (string_bytes path ++ codes " is there: another run has the store, or one that was cut off left its lock")
problem_spelled Exists = Some (codes "there is such a file already")
problem_spelled Open = Some (codes "another run has the store, though its lock is gone")
problem_spelled (Length n) = Some (codes "a store has 16 bytes, and this file has " ++ decimal n)
problem_spelled StandardStream = Some (codes "a standard stream is closed")
problem_spelled NotDurable = Some (codes "the file cannot be made durable")
problem_spelled (Io e) = None
