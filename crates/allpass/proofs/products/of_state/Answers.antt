-- `allpass::products::of_state` meets its contract: the products of each number of the state, joined.
-- Assumes nothing.
use mathlib.Core.Path.{◌≡◌, sym, ap, ◌∙◌}
use Prim.Native.Nat.{ℕ, ◌*◌, ◌≤◌}
use native.Mathlib.Omega.{arith}
use borrow.Author.Rules.{rules}
use lib.IntN.{ℤ, nat_abs}
use mir.Syntax.{w64}
use mir.Val.{to_z, of_z}
use Rattle.integer.specs.Rounding.{M}
use Rattle.thiran.specs.declared.formula.Coefficients.{Coefficients}
use Rattle.allpass.specs.Stored.{Fed}
use Rattle.allpass.specs.Products.{scaled_of, number, products_in, products_of}
use Rattle.allpass.specs.declared.State.{State}
use Rattle.allpass.specs.declared.multiples.Multiples.{Multiples}
use Rattle.allpass.proofs.Little.{Little, a1-small, scaled_little, number-first, number-within}
use Rattle.allpass.proofs.products.of_state.Goals as goal

-- what the machine reads back of z is z
abbrev Read : ℤ → Type 0
Read z = to_z w64 (of_z w64 z) ≡ z

-- what is told of a state that can be fed
module _ (N : ℕ) (c : Coefficients) (v : State) (f : ℤ) (q : Fed N c v f) where
  abbrev at : ℕ → ℤ
  at i = number N v i

  abbrev of : ℕ → Multiples
  of i = scaled_of N c (at i)

  small : (i : ℕ) → nat_abs (at i) ≤ 2 * M
  small i = number-within N v q.state_within i

  little : (i : ℕ) → Little (of i)
  little i = scaled_little N c (at i) q.least q.most q.taps_small (small i)

  -- v1, as the machine reads it
  first_read : Read v.v1 → to_z w64 (of_z w64 v.v1) ≡ at 0
  first_read e = e ∙ sym (number-first v N q.least)

-- products of equal numbers are equal
alike : (N : ℕ) {x x' y y' z z' : Multiples} → x ≡ x' → y ≡ y' → z ≡ z'
    → products_in N x y z ≡ products_in N x' y' z'
alike N ex ey ez = rw (ex, ey, ez)

-- ---- the products of v1, v2 and v3
pub scaled-x-requires : goal.scaled-x-requires
scaled-x-requires c =
    let q = c.requires in
    let e = first_read _ _ _ _ q (search rules) in
    (q.least, q.most, q.taps_small, rw e (small _ _ _ _ q 0))

pub scaled-y-requires : goal.scaled-y-requires
scaled-y-requires c =
    let q = c.requires in
    (q.least, q.most, q.taps_small, rw c.second.ensures (small _ _ _ _ q 1))

pub scaled-z-requires : goal.scaled-z-requires
scaled-z-requires c =
    let q = c.requires in
    (q.least, q.most, q.taps_small, rw c.third.ensures (small _ _ _ _ q 2))

pub joined-requires : goal.joined-requires
joined-requires c =
    let N = c.args.order in
    let q = c.requires in
    let e = first_read _ _ _ _ q (search rules) in
    let x = little _ _ _ _ q 0 in
    let y = little _ _ _ _ q 1 in
    let z = little _ _ _ _ q 2 in
    let is_x = c.scaled-x.ensures ∙ ap (scaled_of N c.args.c) e in
    let is_y = c.scaled-y.ensures ∙ ap (scaled_of N c.args.c) c.second.ensures in
    let is-z = c.scaled-z.ensures ∙ ap (scaled_of N c.args.c) c.third.ensures in
    record {
      x2_bound = (
        rw is_x (omega (arith, x.two)),
        rw is_y (omega (arith, y.one)),
        rw is_y (omega (arith, y.two)),
        rw is_y (omega (arith, y.three)),
        rw is-z (omega (arith, z.three)),
      );
      x1_value = (
        ap (λ (x : Multiples). x.x1) c.scaled-x.ensures,
        omega (arith, a1-small N c.args.c q.least, q.taps_small),
        rw e (omega (arith, small _ _ _ _ q 0)),
      );
    }

pub returns : goal.returns
unfolding products_of
returns c =
    let N = c.args.order in
    let e = first_read _ _ _ _ c.requires (search rules) in
    let is_x = c.scaled-x.ensures ∙ ap (scaled_of N c.args.c) e in
    let is_y = c.scaled-y.ensures ∙ ap (scaled_of N c.args.c) c.second.ensures in
    let is-z = c.scaled-z.ensures ∙ ap (scaled_of N c.args.c) c.third.ensures in
    c.joined.ensures ∙ alike N is_x is_y is-z
