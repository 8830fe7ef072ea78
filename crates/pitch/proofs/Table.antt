-- A rule of a table, shown at each entry by one test that is computed over the whole table.
-- Assumes nothing.
use mathlib.Core.Path.{◌≡◌}
use mathlib.Core.Bool.{Bool, true, ◌&&◌, and-eq-true_iff}
use mathlib.Core.List.{List, [], ◌∷◌}
use Prim.Native.Nat.{ℕ, zero, suc, ◌<◌}
use native.Mathlib.Nat.{le_of_suc-le-suc, not-suc-le-zero}
use lib.ListN.{length, get_or}

-- the test f passes at each place and the entry there
abbrev pub every : (ℕ → ℕ → Bool) → List ℕ → Bool
every f [] = true
every f (x ∷ xs) = f 0 x && every (λ (k : ℕ). f (suc k)) xs

pub at : (f : ℕ → ℕ → Bool) (xs : List ℕ) → every f xs ≡ true
    → (k : ℕ) → k < length xs → f k (get_or xs k 0) ≡ true
at f [] e k h = absurd (not-suc-le-zero h)
at f (x ∷ xs) e zero h = ((and-eq-true_iff (f 0 x) (every (λ (k : ℕ). f (suc k)) xs)).0 e).0
at f (x ∷ xs) e (suc k) h =
    at (λ (j : ℕ). f (suc j)) xs ((and-eq-true_iff (f 0 x) (every (λ (k : ℕ). f (suc k)) xs)).0 e).1 k
    (le_of_suc-le-suc h)
