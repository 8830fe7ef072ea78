-- `step::feedback::mixed` meets its contract: the sums are at most 2^24 and 2^25.
-- Assumes nothing.
use mathlib.Core.Path.{◌≡◌}
use Prim.Native.Nat.{◌≤◌, ◌^◌}
use native.Mathlib.Omega.{arith}
use lib.IntN.{ℤ, nat_abs, ◌+ℤ◌}
use mir.Syntax.{w64}
use Rattle.integer.proofs.View.{abs_fits}
use Rattle.integer.proofs.Ring.{abs-+}
use Rattle.step.proofs.Machine.{back, kept, terms}
use Rattle.step.proofs.feedback.mixed.Goals as goal
use Rattle.step.proofs.feedback.mixed.Lts as lts
use Rattle.step.proofs.feedback.mixed.Reads as reads
use Rattle.step.proofs.feedback.mixed.Tie as tie

module _ (s : (lts.Start tie.the-claims reads.Pre reads.Post)) where
  abbrev x : ℤ
  x = s.args.x.n

  abbrev n : ℤ
  n = s.args.noise.n

  abbrev b : ℤ
  b = s.args.back.n

  first_small : nat_abs (x +ℤ n) ≤ 2 ^ 24
  first_small = omega (arith, abs-+ x n)

  second-small : nat_abs ((x +ℤ n) +ℤ b) ≤ 2 ^ 25
  second-small = omega (arith, first_small, abs-+ (x +ℤ n) b)

  first : back x +ℤ back n ≡ x +ℤ n
  first = terms x n (omega arith) (omega arith)

  second : back (back x +ℤ back n) +ℤ back b ≡ (x +ℤ n) +ℤ b
  second = rw first (terms (x +ℤ n) b (omega (arith, first_small)) (omega arith))

pub overflow_add-x : goal.overflow_add-x
overflow_add-x c =
    let s = c.before.before.before.before in
    rw (first s) (abs_fits w64 (x s +ℤ n s) (omega (arith, first_small s)))

pub overflow_add-x-2 : goal.overflow_add-x-2
overflow_add-x-2 c =
    let s = c.before.before.before.before.before.before in
    rw (second s) (abs_fits w64 ((x s +ℤ n s) +ℤ b s) (omega (arith, second-small s)))

pub returns : goal.returns
returns c =
    let s = c.before.before.before.before.before.before.before in
    rw (second s, kept ((x s +ℤ n s) +ℤ b s) (omega (arith, second-small s))) at c.clip.ensures
