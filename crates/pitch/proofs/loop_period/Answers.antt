-- `pitch::loop_period` meets its contract: the divisor is from 440·2^24 to 2^44, so T fits 32 bits.
-- Assumes nothing.
use mathlib.Core.Path.{◌≡◌, refl, sym, ◌∙◌}
use Prim.Native.Nat.{ℕ, ◌*◌, ◌^◌, ◌≤◌, ◌<◌}
use native.Mathlib.Omega.{arith}
use lib.IntN.{pos, ◌*ℤ◌}
use mir.Syntax.{w64}
use mir.Val.{to_z, of_z}
use mir.ValLaws.{to_z_pos}
use Rattle.integer.specs.Parts.{up}
use Rattle.integer.specs.Rounding.{nearest}
use Rattle.integer.proofs.View.{read}
use Rattle.pitch.proofs.Theorems.{divisor_least}
use Rattle.pitch.proofs.Quotient.{power, divisor_most, quotient, not_below, small}
use Rattle.pitch.proofs.loop_period.Goals as goal

size : (c : goal.After-divisor-below) → (440 * 2 ^ 24 ≤ c.divisor-below.result) × (c.divisor-below.result ≤ 2 ^ 44)
size c =
    let m = c.args.m in
    rw c.divisor-below.ensures (divisor_least m (power m), divisor_most m c.requires.1)

-- what is rounded, as the machine reads it
above : (c : goal.After-divisor-below)
    → to_z w64 (of_z w64 (to_z w64 c.args.rate *ℤ pos 4398046511104)) ≡ pos (c.args.rate * 2 ^ 42)
above c =
    let r = c.args.rate in
    rw (to_z_pos w64 r (omega arith)) (read w64 (pos (r * 2 ^ 42)) (omega arith) refl)

pub round_half_up-requires : goal.round_half_up-requires
round_half_up-requires c = rw (above c) (omega (arith, size c))

module _ (c : goal.After-struct_told-1) where
  abbrev n : ℕ
  n = up (nearest (pos (c.args.rate * 2 ^ 42)) c.divisor-below.result)

  rounded : c.round_half_up.result.n ≡ pos n
  rounded = rw (above c.before.before.before) at c.round_half_up.ensures ∙ not_below (c.args.rate * 2 ^ 42) c.divisor-below.result

  below : n < 2 ^ 32
  below = small (c.args.rate * 2 ^ 42) c.divisor-below.result (omega arith) (size c.before.before.before).0

  t : to_z w64 (of_z w64 c.round_half_up.result.n) ≡ pos n
  t = rw rounded (read w64 (pos n) (omega (arith, below)) refl)

pub overflow_cast-result : goal.overflow_cast-result
overflow_cast-result c = rw (t c) (tt, record { fits = below c })

pub returns : goal.returns
returns c =
    let a = c.args in
    rw (t c) (sym (not_below (a.rate * 2 ^ 42) c.divisor-below.result) ∙ rw c.divisor-below.ensures (quotient a.m a.rate))
