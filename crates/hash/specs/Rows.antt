-- Rows side by side. Assumes nothing: these are definitions.
use Rattle.std.specs.Prelude.{ℕ, List, [], ◌∷◌, ◌++◌}
use Rattle.std.specs.Simd.Lanes.{zip2}

-- rows, each with one number more at its end
abbrev pub longer : List (List ℕ) → List ℕ → List (List ℕ)
longer rows xs = zip2 (λ row x. row ++ (x ∷ [])) rows xs
