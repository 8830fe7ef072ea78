-- `floats::rounding::nearest_half` meets its contract: below zero by the ceiling, else by the whole part.
use Rattle.std.proofs.Common.{◌≡◌, ℕ, ◌+◌, ◌-◌, ◌*◌, ◌/◌, ◌^◌, ◌<◌, ◌≤◌, ℤ, pos, ◌-ℤ◌, neg_ℤ, sym, ap, ◌∙◌, arith, to_z-of_z, w64, SFits, to_z}
use lib.Ieee.{Float, neg, of_bits}
use mir.ValLaws.{to_z_pos}
use Rattle.integer.specs.Rounding.{nearest}
use Rattle.integer.proofs.View.{Zs, -v, negv, vfit}
use Rattle.floats.specs.Worth.{size, unit, above}
use Rattle.floats.specs.Steps.{Counted}
use Rattle.floats.proofs.Whole.{unit-pos, whole-under, ceiling_under}
use Rattle.floats.proofs.Parts.{nearest-above, nearest-below}
use Rattle.floats.proofs.Tests.{below, not_below, sizes_neg, counted_neg}
use Rattle.floats.proofs.rounding.nearest_half.Goals as goal

minus : (r : ℕ) → pos 0 -ℤ pos r ≡ neg_ℤ (pos r)
minus r = omega (Zs, -v (pos 0) (pos r), negv (pos r))

-- ---- below zero
is_below : (c : goal.Then-u) → above c.args.u ≡ neg_ℤ (pos (size c.args.u))
unfolding of_bits
is_below c = (below c.args.u c.requires.0 c.if-u.true).0

counts : (c : goal.Then-u) → Counted (neg c.args.u)
counts c = let s = c.before in counted_neg s.args.u s.requires.0 s.requires.1 (is_below c)

small : (c : goal.After-ceiling) → c.ceiling.result ≤ 2 ^ 53
small c = rw c.ceiling.ensures (ceiling_under (neg c.args.u) (counts c.before))

module _ (c : goal.After-half_down-c) where
  abbrev u : Float
  u = c.args.u

  abbrev r : ℕ
  r = c.half_down-c.result

  ceiling-is : c.ceiling.result ≡ (size u + (unit u - 1)) / unit u
  ceiling-is = rw ((sizes_neg u).0, (sizes_neg u).1) at c.ceiling.ensures

  r-read : to_z w64 r ≡ pos r
  r-read = to_z_pos w64 r (omega (arith, c.half_down-c.ensures, small c.before))

  fits : SFits w64 (pos 0 -ℤ pos r)
  fits =
      vfit w64 (pos 0 -ℤ pos r)
      (omega (arith, -v (pos 0) (pos r), c.half_down-c.ensures, small c.before))

  is-nearest : pos 0 -ℤ pos r ≡ nearest (above u) (2 * unit u)
  is-nearest =
      minus r
      ∙ ap (λ (n : ℕ). neg_ℤ (pos n)) (c.half_down-c.ensures ∙ ap (λ (n : ℕ). n / 2) ceiling-is)
      ∙ nearest-below (size u) (unit u) (unit-pos u)
      ∙ ap (λ (z : ℤ). nearest z (2 * unit u)) (sym (is_below c.before.before))

pub ceiling-requires : goal.ceiling-requires
ceiling-requires c = counts c

pub half_down-c-requires : goal.half_down-c-requires
half_down-c-requires c = small c

pub overflow_sub-result : goal.overflow_sub-result
overflow_sub-result c = rw (r-read c) (fits c)

pub returns-then-u : goal.returns-then-u
returns-then-u c = rw (r-read c, to_z-of_z (fits c)) (is-nearest c)

-- ---- not below zero
counts_up : (c : goal.Else-u) → Counted c.args.u
unfolding of_bits
counts_up c =
    let s = c.before in
    let n = not_below s.args.u s.requires.0 c.if-u.false in
    record { is_finite = s.requires.0; not_below = n; under = s.requires.1 }

under : (c : goal.After-whole) → c.whole.result < 2 ^ 53
under c = rw c.whole.ensures (whole-under c.args.u (counts_up c.before))

pub whole-requires : goal.whole-requires
whole-requires c = counts_up c

pub half_up-k-requires : goal.half_up-k-requires
half_up-k-requires c = under c

pub overflow_cast-result-2 : goal.overflow_cast-result-2
overflow_cast-result-2 c = record { sfits = omega (arith, c.half_up-k.ensures, under c.before) }

pub returns : goal.returns
returns c =
    let w = c.before in
    let v = w.args.u in
    rw (
      to_z_pos w64 c.half_up-k.result (omega (arith, c.half_up-k.ensures, under w)),
      c.half_up-k.ensures,
      w.whole.ensures,
    )
    (nearest-above (size v) (unit v) (unit-pos v)
    ∙ ap (λ (z : ℤ). nearest z (2 * unit v)) (sym (counts_up w.before).not_below))
