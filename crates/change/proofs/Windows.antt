-- What an instant change reads: each sample of a line, and the last of them one by one.
-- Assumes nothing.
use mathlib.Core.Path.{◌≡◌}
use mathlib.Core.List.{List, ◌∷◌}
use Prim.Native.Nat.{ℕ, zero, suc, ◌+◌, ◌-◌, ◌<◌}
use native.Mathlib.Numerals.{unary_clauses}
use native.Mathlib.Omega.{arith}
use lib.IntN.{ℤ}
use Rattle.allpass.specs.Allpass.{next, run}
use Rattle.rule.specs.Calls.{window}

first : (q : ℕ → ℤ) (L a : ℕ) → 0 < a → window q L a ≡ q (L + a) ∷ window q L (a - 1)
first q L zero h = absurd (omega arith)
first q L (suc a) h = simp unary_clauses

-- a run over a window, its first sample taken
pub window-run : (A v u : List ℤ) (q : ℕ → ℤ) (L a : ℕ) → 0 < a → u ≡ next A v (q (L + a))
    → run A u (window q L (a - 1)) ≡ run A v (window q L a)
window-run A v u q L a h e = rw (e, first q L a h)
