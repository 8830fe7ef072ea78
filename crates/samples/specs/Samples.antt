-- Slices of samples: which lists hold samples alone, and one list laid over another. Definitions alone.
-- Assumes nothing.
use Rattle.std.specs.Prelude.{List, [], ◌∷◌, ◌++◌, ℕ, max, ℤ, nat_abs, length, drop}

-- the largest magnitude of a list: "A sample is a whole number from −M to M", so that of samples is at most M
abbrev pub loudest : List ℤ → ℕ
loudest [] = 0
loudest (x ∷ xs) = max (nat_abs x) (loudest xs)

-- xs over the front of a slice, and the rest of it untouched
abbrev pub over {ℓ} : {X : Type ℓ} → List X → List X → List X
over xs before = xs ++ drop (length xs) before
