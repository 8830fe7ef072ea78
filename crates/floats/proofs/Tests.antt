-- What the code's tests of a float against a whole number K say.
use Rattle.std.proofs.Common.{◌≡◌, ℕ, ◌+◌, ◌*◌, ◌^◌, ◌<◌, ◌≤◌, true, false, cond, not, T, subst, pos, neg_ℤ, sym, refl, arith, ltb-false, ltb-true}
use mathlib.Core.Bool.{false≢true}
use lib.Ieee.{Float, nan, inf, fin, up, down, neg, lt, is_nan}
use Rattle.refusal.specs.declared.Refusal.{Refusal}
use Rattle.refusal.specs.Numbers.{number_of}
use Rattle.refusal.proofs.Numbers.{refused-above}
use Rattle.integer.proofs.View.{Zs, negv}
use Rattle.floats.specs.Worth.{finite, size, unit, above}
use Rattle.floats.specs.Steps.{Counted}
use Rattle.floats.proofs.Whole.{none}

pub no_nan : (x : Float) → T (finite x) → T (not (is_nan x))
unfolding is_nan
no_nan nan f = absurd f
no_nan (inf s) f = tt
no_nan (fin s m e) f = tt

-- ---- x is finite, or refused by 26
pub is-finite : (x : Float) → ◌≡◌ {A = ℕ} 0 (cond (finite x) 0 26) → finite x ≡ true
is-finite nan e = absurd (omega arith)
is-finite (inf s) e = absurd (omega arith)
is-finite (fin s m i) e = refl

pub not-finite : (x : Float) (r : Refusal) → number_of r ≡ cond (finite x) 0 26
    → (finite x ≡ false) × (number_of r ≡ 26)
not-finite nan r e = (refl, e)
not-finite (inf s) r e = (refl, e)
not-finite (fin s m i) r e = absurd (refused-above r e)

pub fin-T : (x : Float) → finite x ≡ true → T (finite x)
fin-T x e = subst T (sym e) tt

-- ---- x < 0
pub below : (x : Float) → T (finite x) → lt x (fin false 0 (pos 0)) ≡ true
    → (above x ≡ neg_ℤ (pos (size x))) × (0 < size x)
unfolding lt
below nan f t = absurd f
below (inf s) f t = absurd f
below (fin false m e) f t = absurd (omega (arith, ltb-true (m * up e * 1) (0 * down e) t))
below (fin true m e) f t = (refl, omega (arith, ltb-true 0 (m * up e * 1 + 0 * down e) t))

pub not_below : (x : Float) → T (finite x) → lt x (fin false 0 (pos 0)) ≡ false → above x ≡ pos (size x)
unfolding lt
not_below nan f t = absurd f
not_below (inf s) f t = absurd f
not_below (fin false m e) f t = refl
not_below (fin true m e) f t = omega (Zs, negv (pos (m * up e)), ltb-false 0 (m * up e * 1 + 0 * down e) t)

-- ---- x < -K, and K < x
pub under : (x : Float) (K : ℕ) → T (finite x) → lt x (fin true K (pos 0)) ≡ true → K * unit x < size x
unfolding lt
under nan K f t = absurd f
under (inf s) K f t = absurd f
under (fin false m e) K f t = absurd (false≢true t)
under (fin true m e) K f t = omega (arith, ltb-true (K * 1 * down e) (m * up e * 1) t)

pub over : (x : Float) (K : ℕ) → T (finite x) → lt (fin false K (pos 0)) x ≡ true
    → (above x ≡ pos (size x)) × (K * unit x < size x)
unfolding lt
over nan K f t = absurd f
over (inf s) K f t = absurd f
over (fin false m e) K f t = (refl, omega (arith, ltb-true (K * 1 * down e) (m * up e * 1) t))
over (fin true m e) K f t = absurd (false≢true t)

pub not-over : (x : Float) (K : ℕ) → T (finite x) → above x ≡ pos (size x)
    → lt (fin false K (pos 0)) x ≡ false → size x ≤ K * unit x
unfolding lt
not-over nan K f p t = absurd f
not-over (inf s) K f p t = absurd f
not-over (fin false m e) K f p t = omega (arith, ltb-false (K * 1 * down e) (m * up e * 1) t)
not-over (fin true m e) K f p t = omega (arith, none (m * up e) p)

pub between : (x : Float) (K : ℕ) → T (finite x) → lt x (fin true K (pos 0)) ≡ false
    → lt (fin false K (pos 0)) x ≡ false → size x ≤ K * unit x
unfolding lt
between nan K f t u = absurd f
between (inf s) K f t u = absurd f
between (fin false m e) K f t u = omega (arith, ltb-false (K * 1 * down e) (m * up e * 1) u)
between (fin true m e) K f t u = omega (arith, ltb-false (K * 1 * down e) (m * up e * 1) t)

-- ---- -x
pub sizes_neg : (x : Float) → (size (neg x) ≡ size x) × (unit (neg x) ≡ unit x)
unfolding neg
sizes_neg nan = (refl, refl)
sizes_neg (inf s) = (refl, refl)
sizes_neg (fin s m e) = (refl, refl)

pub counted_neg : (x : Float) → T (finite x) → size x < 2 ^ 53 * unit x → above x ≡ neg_ℤ (pos (size x))
    → Counted (neg x)
unfolding neg
counted_neg nan f u h = absurd f
counted_neg (inf s) f u h = absurd f
counted_neg (fin false m e) f u h = record { is_finite = tt; not_below = sym h; under = u }
counted_neg (fin true m e) f u h = record { is_finite = tt; not_below = refl; under = u }
