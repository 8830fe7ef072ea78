-- Laws of specs/Cut.antt: the size of a cut number, how far apart two of them are, and what it is from outside.
-- Assumes nothing.
use mathlib.Core.Path.{◌≡◌, refl, sym, subst, ◌∙◌}
use mathlib.Core.Logic.{◌↔◌}
use Prim.Native.Nat.{ℕ, suc, ◌+◌, ◌*◌, ◌-◌, ◌/◌, ◌≤◌, ◌<◌}
use native.Mathlib.Omega.{arith}
use native.Mathlib.Nat.{div-add-mod', mod-lt, zero-div, div-le_self}
use lib.Dec.{lit<}
use lib.IntN.{ℤ, pos, negsuc, nat_abs, ◌-ℤ◌}
use lib.Signed.{◌≤ℤ◌, quot_z}
use Rattle.integer.specs.Parts.{up, dn}
use Rattle.integer.specs.Cut.{cut, R, Q}
use Rattle.integer.specs.Toward.{Cuts, AtDivisor, Toward}
use Rattle.integer.proofs.View.{negv, -v, absv, near, onev, Zs}
use Rattle.integer.proofs.Rounding.{below}

-- ---- around the divisors
at_divisor : AtDivisor
unfolding R Q cut
at_divisor = record {
  zero = (refl, refl);
  one = (refl, refl);
  still = (refl, refl);
  loop_zero = (refl, refl);
  loop_one = (refl, refl);
}

-- it is the machine's division
pub cut_quot : (u : ℤ) (d : ℕ) → quot_z u (pos d) ≡ cut u d
unfolding cut
cut_quot (pos a) d = refl
cut_quot (negsuc a) d = refl

-- its two parts
pub cutv : (u : ℤ) (d : ℕ) → (up (cut u d) ≡ up u / d) × (dn (cut u d) ≡ dn u / d)
unfolding cut
cutv (pos a) d = (refl, sym (zero-div d))
cutv (negsuc a) d = ((negv (pos (suc a / d))).0 ∙ sym (zero-div d), (negv (pos (suc a / d))).1)

-- ---- its size
pub cut_abs : (u : ℤ) (d : ℕ) → nat_abs (cut u d) ≡ nat_abs u / d
cut_abs (pos a) d = omega (arith, absv (cut (pos a) d), cutv (pos a) d, zero-div d)
cut_abs (negsuc a) d = omega (arith, absv (cut (negsuc a) d), cutv (negsuc a) d, zero-div d)

-- ---- how far apart two of them are: |u − v| / d, upward
module _ (d : ℕ) (h : 0 < d) where
  upward : (n : ℕ) → n ≤ d * ((n + (d - 1)) / d)
  upward n = let k = n + (d - 1) in omega (arith, div-add-mod' k d, mod-lt k h)

  -- one way, by the signs
  apart : (u v : ℤ) (B : ℕ) → up u + dn v ≤ up v + dn u + d * B
      → up u / d + dn v / d ≤ up v / d + dn u / d + B
  apart (pos a) (pos b) B l =
      below d (a / d + 0 / d) (b / d + 0 / d + B) h
      (omega (arith, div-add-mod' a d, div-add-mod' b d, mod-lt b h, zero-div d))
  apart (pos a) (negsuc b) B l =
      let s = suc b in
      below d (a / d + s / d) (0 / d + 0 / d + B) h
      (omega (arith, div-add-mod' a d, div-add-mod' s d, zero-div d))
  apart (negsuc a) (pos b) B l = omega (arith, zero-div d)
  apart (negsuc a) (negsuc b) B l =
      let s = suc a in
      let t = suc b in
      below d (0 / d + t / d) (0 / d + s / d + B) h
      (omega (arith, div-add-mod' t d, div-add-mod' s d, mod-lt s h, zero-div d))

  pub cut-near : (u v : ℤ) → nat_abs (cut u d -ℤ cut v d) ≤ (nat_abs (u -ℤ v) + (d - 1)) / d
  cut-near u v =
      let B = (nat_abs (u -ℤ v) + (d - 1)) / d in
      let z = cut u d -ℤ cut v d in
      let e = -v u v in
      let i = absv (u -ℤ v) in
      let m = upward (nat_abs (u -ℤ v)) in
      let l = apart u v B (omega arith) in
      let r = apart v u B (omega arith) in
      near z {B = B} (omega (arith, cutv u d, cutv v d, -v (cut u d) (cut v d)))

  -- ---- `Cuts` is true of the cut, and of no other number
  pub cut-is : (u : ℤ) → Cuts u d (cut u d)
  cut-is u =
      let n = nat_abs u in
      let s = cutv u d in
      record {
        low = rw (cut_abs u d) (omega (arith, div-add-mod' n d));
        high = rw (cut_abs u d) (omega (arith, div-add-mod' n d, mod-lt n h));
        above = λ p. omega (Zs, s, onev u, div-le_self (dn u) d);
        under = λ p. omega (Zs, s, onev u, div-le_self (up u) d);
      }

  pub cut-only : (u q : ℤ) → Cuts u d q → q ≡ cut u d
  cut-only u q c =
      let e = cut u d in
      let k = cut-is u in
      let l = below d (nat_abs q) (nat_abs e) h (omega (arith, c.low, k.high)) in
      let g = below d (nat_abs e) (nat_abs q) h (omega (arith, k.low, c.high)) in
      same q e u (omega (arith, absv q, absv e)) c.above c.under k.above k.under
    where
      same : (q e u : ℤ) → up q + dn q ≡ up e + dn e
          → (pos 0 ≤ℤ u → pos 0 ≤ℤ q) → (u ≤ℤ pos 0 → q ≤ℤ pos 0)
          → (pos 0 ≤ℤ u → pos 0 ≤ℤ e) → (u ≤ℤ pos 0 → e ≤ℤ pos 0)
          → q ≡ e
      same q e (pos a) i f g f' g' =
          let z : pos 0 ≤ℤ pos a = omega Zs in
          omega (Zs, f z, f' z, onev q, onev e)
      same q e (negsuc a) i f g f' g' =
          let z : negsuc a ≤ℤ pos 0 = omega Zs in
          omega (Zs, g z, g' z, onev q, onev e)

-- ---- R and the loop's division: their sizes, and R's contraction
pub R-abs : (u : ℤ) → nat_abs (R u) ≡ nat_abs u / 65536
unfolding R
R-abs u = cut_abs u 65536

pub Q-abs : (u : ℤ) → nat_abs (Q u) ≡ nat_abs u / 131072
unfolding Q
Q-abs u = cut_abs u 131072

-- numbers at most E apart are cut to numbers at most E/65,536 apart, upward
pub R-near : (u v : ℤ) (E : ℕ) → nat_abs (u -ℤ v) ≤ E → nat_abs (R u -ℤ R v) ≤ (E + 65535) / 65536
unfolding R
R-near u v E h = omega (arith, cut-near 65536 (lit< tt) u v)

-- ---- what "cut toward zero" means, from outside
only : (d : ℕ) → 0 < d → (u q : ℤ) → q ≡ cut u d ↔ Cuts u d q
only d h u q = (λ e. subst (λ (z : ℤ). Cuts u d z) (sym e) (cut-is d h u), cut-only d h u q)

pub toward : Toward
unfolding R Q
toward = record {
  R-cuts = only 65536 (lit< tt);
  Q-cuts = only 131072 (lit< tt);
  size = cut_abs;
  apart = λ u v d h. cut-near d h u v;
  at_divisor = at_divisor;
}
