-- The numbers of a tuned filter are small, and what its words are.
use mathlib.Core.Path.{ap}
use Prim.Native.Nat.{ℕ, ◌≤◌, ◌^◌}
use native.Mathlib.Omega.{arith}
use lib.IntN.{nat_abs}
use Rattle.thiran.specs.Answers.{padded}
use Rattle.thiran.specs.declared.formula.Coefficients.{Coefficients}
use Rattle.thiran.proofs.Lists.{coefficient-small}
use Rattle.allpass.specs.Stored.{stored}
use Rattle.allpass.specs.declared.State.{State}
use Rattle.voice.specs.declared.Filter.{Filter}
use Rattle.voice.specs.Valid.{Tuned}
use Rattle.voice.proofs.Within.{read-within}

module _ (f : Filter) (h : Tuned f) where
  abbrev N : ℕ
  N = f.tuning.order

  abbrev d : ℕ
  d = f.tuning.delay

  pub a1-small : nat_abs f.coefficients.a1 ≤ 2 ^ 24
  unfolding padded
  a1-small =
      let e = ap (λ (c : Coefficients). c.a1) h.coefficients_are in
      rw e (omega (arith, coefficient-small N d 0 h.takes))

  pub a2-small : nat_abs f.coefficients.a2 ≤ 2 ^ 24
  unfolding padded
  a2-small =
      let e = ap (λ (c : Coefficients). c.a2) h.coefficients_are in
      rw e (omega (arith, coefficient-small N d 1 h.takes))

  pub a3-small : nat_abs f.coefficients.a3 ≤ 2 ^ 24
  unfolding padded
  a3-small =
      let e = ap (λ (c : Coefficients). c.a3) h.coefficients_are in
      rw e (omega (arith, coefficient-small N d 2 h.takes))

  pub v2-small : nat_abs f.state.v2 ≤ 2 ^ 24
  unfolding stored
  v2-small = omega (arith, read-within 1 h.within (ap (λ (s : State). s.v2) h.past))

  pub v3-small : nat_abs f.state.v3 ≤ 2 ^ 24
  unfolding stored
  v3-small = omega (arith, read-within 2 h.within (ap (λ (s : State). s.v3) h.past))
