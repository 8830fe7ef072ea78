-- What is known where a call is accepted.
--
use mathlib.Core.Path.{◌≡◌, refl}
use mathlib.Core.List.{[], ◌∷◌}
use mathlib.Core.Option.{Option, none, some}
use Prim.Native.Nat.{ℕ, ◌≤◌}
use native.Mathlib.Omega.{arith}
use lib.IntN.{ℤ, nat_abs}
use Rattle.integer.specs.Rounding.{M}
use Rattle.refusal.specs.Limits.{Between}
use Rattle.refusal.proofs.Tests.{accepted}
use Rattle.junction.specs.Junction.{Side, from_left, from_right, Two, at, Move, Junction}
use Rattle.junction.specs.Calls.{move, sample, delay_limit, waitings, move_limit, sample_limit, number}

none-waits : (w : Option Move) → waitings w ≤ 0 → w ≡ none
none-waits none l = refl
none-waits (some w) l = absurd (omega arith)

pub move-delay : (j : Junction) (d : ℕ) → number j (move d) ≡ 0 → Between 2049 d 6143
unfolding number
move-delay j d e = ((accepted (delay_limit d) (move_limit j.waiting ∷ []) tt).0 e).0

pub move-idle : (j : Junction) (d : ℕ) → number j (move d) ≡ 0 → j.waiting ≡ none
unfolding number
move-idle j d e = none-waits j.waiting ((accepted (delay_limit d) (move_limit j.waiting ∷ []) tt).0 e).1.most

pub sample-within : (j : Junction) (x : Two ℤ) → number j (sample x) ≡ 0 → (s : Side) → nat_abs (at s x) ≤ M
unfolding number
sample-within j x e from_left = omega (arith, ((accepted (sample_limit x) [] tt).0 e).most)
sample-within j x e from_right = omega (arith, ((accepted (sample_limit x) [] tt).0 e).most)
