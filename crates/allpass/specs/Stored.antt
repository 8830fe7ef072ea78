-- How the filter's lists stand in the structs of the code: as many numbers as the order, and 0 past them.
-- Definitions alone. Assumes nothing.
use Rattle.std.specs.Prelude.{List, [], ◌∷◌, ℕ, ◌*◌, ◌≤◌, ℤ, pos, nat_abs, take, get_or}
use Rattle.integer.specs.Rounding.{M}
use Rattle.refusal.specs.Orders.{orders}
use Rattle.thiran.specs.Coefficients.{norm}
use Rattle.thiran.specs.Answers.{taps}
use Rattle.thiran.specs.declared.formula.Coefficients.{Coefficients}
use Rattle.allpass.specs.Bounds.{Within}
use Rattle.allpass.specs.declared.State.{State}

-- the struct of a state: "In order 1, v2 is kept at 0"; "A3 and v3 are 0 below order 3" (L5)
unfoldable pub stored : List ℤ → State
stored v = record { v1 = get_or v 0 (pos 0); v2 = get_or v 1 (pos 0); v3 = get_or v 2 (pos 0) }

-- the numbers of the struct, and the state of order N that it holds
abbrev pub entries : State → List ℤ
entries v = v.v1 ∷ v.v2 ∷ v.v3 ∷ []

abbrev pub held : ℕ → State → List ℤ
held N v = take N (entries v)

-- a filter of order N and a sample f that it can take
pub record Fed (N : ℕ) (c : Coefficients) (v : State) (f : ℤ) : Type 0 where
  pub least : 1 ≤ N
  pub most : N ≤ orders
  pub taps_small : norm (taps N c) ≤ 32768
  pub state_within : Within (2 * M) (held N v)
  pub sample : nat_abs f ≤ M
