-- What holds of every junction that calls reach: the limits of its parts, "states within 2M".
-- Statements alone: proofs/Valid.antt proves it.
use Rattle.std.specs.Prelude.{◌≡◌, List, ℕ, ◌≤◌, ◌<◌, ℤ, length}
use Rattle.std.proofs.Math.Option.{some}
use Rattle.integer.specs.Rounding.{M}
use Rattle.refusal.specs.Limits.{Between}
use Rattle.allpass.specs.Bounds.{Within}
use Rattle.rule.specs.Valid.{Filled}
use Rattle.junction.specs.Junction.{Side, Two, at, Move, Junction}
use Rattle.junction.specs.History.{History, steps}

abbrev pub Full : Two (List ℤ) → Type 0
Full v = (s : Side) → Filled 1 (at s v)

-- with Na inputs taken a move would be in force
pub record Coming (Na : ℕ) (w : Move) : Type 0 where
  pub delay : Between 2049 w.d 6143
  pub early : w.taken < Na
  pub states : Full w.states

pub record Valid (j : Junction) : Type 0 where
  pub delay : Between 2049 j.d 6143
  pub advance : j.Na ≤ 64
  pub states : Full j.states
  pub waiting : (w : Move) → j.waiting ≡ some w → Coming j.Na w

-- with all that it took and put out
pub record Sound (h : History) : Type 0 where
  pub valid : Valid h.junction
  pub many : (s : Side) → length (at s h.inputs) ≡ steps h
  pub put : (s : Side) → length (at s h.filters) ≡ steps h
  pub within : (s : Side) → Within M (at s h.inputs)
