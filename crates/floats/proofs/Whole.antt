-- From a float to whole numbers: the whole part, and the least number not below.
use Rattle.std.proofs.Common.{◌≡◌, ℕ, ◌+◌, ◌-◌, ◌*◌, ◌/◌, ◌^◌, ◌<◌, ◌≤◌, true, false, T, ltb, pos, neg_ℤ, sym, ap, ◌∙◌, true≢false, mul-le-mul_right, mod-lt, div-lt_iff_lt-mul, mul-lt-mul_of_pos_right, div-add-mod', mul_right_comm, arith, le→leb, lt→ltb, ltb-false, ltb-true, le-ltb, lt-ltb}
use native.Mathlib.Nat.{zero-div}
use native.Mathlib.Nat.{div-eq_of_lt-le}
use native.Mathlib.Decide.{dec_lt}
use lib.Ieee.{Float, nan, inf, fin, binary64, up, down, round, lt, of_int, in_float, to_unsigned}
use lib.Ieee.Fits.{down_pos}
use lib.Ieee.Exact.{HasValue}
use lib.Ieee.Back.{round_whole}
use Rattle.integer.proofs.View.{Zs, negv}
use Rattle.floats.specs.Worth.{size, unit}
use Rattle.floats.specs.Steps.{Counted}

pub unit-pos : (x : Float) → 0 < unit x
unit-pos nan = omega arith
unit-pos (inf s) = omega arith
unit-pos (fin s m e) = down_pos e

-- a number that is its own negation is 0
pub none : (a : ℕ) → neg_ℤ (pos a) ≡ pos a → a ≡ 0
none a h = omega (Zs, negv (pos a))

-- ---- the whole part
pub in_range : (v : Float) → Counted v → T (lt (fin true 1 (pos 0)) v) × T (lt v (fin false 1 (pos 64)))
unfolding lt
in_range nan c = absurd c.is_finite
in_range (inf s) c = absurd c.is_finite
in_range (fin false m e) c = (
  lt→ltb 0 (1 * down e + m * up e * 1) (omega (arith, down_pos e)),
  lt→ltb (m * up e * 1) (2 ^ 64 * down e) (omega (arith, c.under)),
)
in_range (fin true m e) c =
    let z = none (m * up e) c.not_below in (
      lt→ltb (m * up e * 1) (1 * down e) (omega (arith, down_pos e)),
      lt→ltb 0 (m * up e * 1 + 2 ^ 64 * down e) (omega (arith, down_pos e)),
    )

pub whole-under : (v : Float) → Counted v → size v / unit v < 2 ^ 53
whole-under v c = (div-lt_iff_lt-mul (unit-pos v)).1 c.under

pub whole_is : (v : Float) → Counted v → to_unsigned 64 v ≡ size v / unit v
unfolding to_unsigned
whole_is nan c = absurd c.is_finite
whole_is (inf s) c = absurd c.is_finite
whole_is (fin false m e) c = omega (arith, whole-under (fin false m e) c)
whole_is (fin true m e) c = rw (none (m * up e) c.not_below) (sym (zero-div (down e)))

-- ---- the least whole number not below
pub as_float : (k : ℕ) → k < 2 ^ 53 → T (in_float binary64 (pos k))
unfolding in_float
as_float k h = le→leb k (2 ^ 53) (omega arith)

-- a / c < b / c is a < b
cancel : (a b c : ℕ) → 0 < c → ltb (a * c) (b * c) ≡ ltb a b
cancel a b c h = go (dec_lt a b)
  where
    go : Dec (a < b) → ltb (a * c) (b * c) ≡ ltb a b
    go (yes g) = lt-ltb (a * c) (b * c) (mul-lt-mul_of_pos_right g h) ∙ sym (lt-ltb a b g)
    go (no g) = le-ltb (a * c) (b * c) (mul-le-mul_right c (omega arith)) ∙ sym (le-ltb a b (omega arith))

test : (y v : Float) (k : ℕ) → HasValue y false k 1 → Counted v → lt y v ≡ ltb (k * unit v) (size v)
unfolding lt
test nan v k h c = absurd h
test (inf s) v k h c = absurd h
test (fin true n d) v k h c = absurd (true≢false h.0)
test (fin false n d) nan k h c = absurd c.is_finite
test (fin false n d) (inf s) k h c = absurd c.is_finite
test (fin false n d) (fin false m e) k h c =
    let x : n * up d * down e ≡ k * down e * down d
    = omega (arith, mul_right_comm k (down e) (down d), ap (λ (z : ℕ). z * down e) h.1) in
    rw x (cancel (k * down e) (m * up e) (down d) (down_pos d))
test (fin false n d) (fin true m e) k h c =
    rw (none (m * up e) c.not_below) (sym (le-ltb (k * down e) 0 (omega arith)))

-- what the code's test of k, the whole part, says
pub fraction : (v : Float) (k : ℕ) → k < 2 ^ 53 → Counted v
    → lt (of_int binary64 (pos k)) v ≡ ltb (k * unit v) (size v)
unfolding of_int
fraction v k h c = test (round binary64 false k 1) v k (round_whole binary64 false k (omega arith)) c

module _ (a d : ℕ) (h : 0 < d) where
  above-whole : a / d * d < a → a / d + 1 ≡ (a + (d - 1)) / d
  above-whole g =
      let m = div-add-mod' a d in
      let l = mod-lt a h in
      sym (div-eq_of_lt-le d (omega (arith, m, l)) (omega (arith, m, l)))

  at-whole : a ≤ a / d * d → a / d ≡ (a + (d - 1)) / d
  at-whole g =
      let m = div-add-mod' a d in
      let l = mod-lt a h in
      sym (div-eq_of_lt-le d (omega (arith, m, l)) (omega (arith, m, l)))

pub ceiling_more : (v : Float) (k : ℕ) → k ≡ size v / unit v → ltb (k * unit v) (size v) ≡ true
    → k + 1 ≡ (size v + (unit v - 1)) / unit v
ceiling_more v k e t =
    rw e (above-whole (size v) (unit v) (unit-pos v) (rw e at (ltb-true (k * unit v) (size v) t)))

pub ceiling_same : (v : Float) (k : ℕ) → k ≡ size v / unit v → ltb (k * unit v) (size v) ≡ false
    → k ≡ (size v + (unit v - 1)) / unit v
ceiling_same v k e t =
    rw e (at-whole (size v) (unit v) (unit-pos v) (rw e at (ltb-false (k * unit v) (size v) t)))

pub ceiling_under : (v : Float) → Counted v → (size v + (unit v - 1)) / unit v ≤ 2 ^ 53
ceiling_under v c =
    let g : (size v + (unit v - 1)) / unit v < 2 ^ 53 + 1
    = (div-lt_iff_lt-mul (unit-pos v)).1 (omega (arith, c.under, unit-pos v)) in
    omega arith
