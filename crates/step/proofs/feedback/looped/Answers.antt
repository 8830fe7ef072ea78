-- `step::feedback::looped` meets its contract: 65,535 times 2M is at most 131,072 times M.
-- Assumes nothing.
use mathlib.Core.Path.{◌≡◌, ap, ◌∙◌}
use Prim.Native.Nat.{ℕ, ◌*◌, ◌≤◌}
use native.Mathlib.Omega.{arith}
use native.Mathlib.Nat.{mul-le-mul}
use lib.IntN.{ℤ, pos, nat_abs, ◌+ℤ◌, ◌*ℤ◌}
use Rattle.integer.specs.Rounding.{M}
use Rattle.integer.specs.Cut.{Q}
use Rattle.integer.proofs.Ring.{abs-*, abs-+}
use Rattle.integer.proofs.Cut.{Q-abs}
use Rattle.integer.proofs.Sides.{scale_above, scale_under}
use Rattle.step.proofs.feedback.looped.Goals as goal

module _ (s : goal.Start) where
  abbrev G : ℕ
  G = s.args.loss

  abbrev t : ℤ
  t = s.args.y.n +ℤ s.args.last.n

  abbrev u : ℤ
  u = pos G *ℤ t

  sum-small : nat_abs t ≤ 2 * M
  sum-small = omega (arith, abs-+ s.args.y.n s.args.last.n, s.requires.1, s.requires.2)

  u-small : nat_abs u ≤ 65535 * (2 * M)
  u-small = omega (arith, abs-* (pos G) t, mul-le-mul s.requires.0 sum-small)

  kept : nat_abs (Q u) ≤ M
  kept = omega (arith, Q-abs u, u-small)

pub plus-t-requires : goal.plus-t-requires
plus-t-requires c = (omega (arith, c.requires.1), omega (arith, c.requires.2))

pub scale-requires : goal.scale-requires
scale-requires c =
    let s = c.before in
    (s.requires.0, rw c.plus-t.ensures (omega (arith, sum-small s)))

is-product : (c : goal.After-scale) → c.scale.result.n ≡ u c.before.before
is-product c =
    let p = c.before in
    c.scale.ensures ∙ ap (λ (t : ℤ). pos (G p.before) *ℤ t) p.plus-t.ensures

pub cut_as-requires : goal.cut_as-requires
cut_as-requires c =
    let p = c.before in
    let s = p.before in
    rw (p.plus-t.ensures, is-product c)
    (omega (arith, sum-small s), omega (arith, u-small s), scale_above (G s) (t s), scale_under (G s) (t s))

pub returns : goal.returns
returns c =
    let z = c.before in
    let e = c.cut_as.ensures ∙ ap Q (is-product z) in
    (e, rw e (kept z.before.before))
