-- Outward: the product by 2^-23 is the f32 nearest to n / 2^23. And 0 times x is a NaN where x is not finite.
use Rattle.std.proofs.Common.{◌≡◌, ℕ, suc, ◌*◌, ◌^◌, ◌<◌, ◌≤◌, Bool, true, false, T, ℤ, pos, negsuc, nat_abs, refl, ap, ◌∙◌, mul-pos, mul-zero, zero-mul, arith, lit<, le→leb, lt→ltb, eq-eqb}
use lib.Ieee.{Float, nan, inf, fin, binary32, up, down, unlike, round, mul, eq, of_int, of_bits}
use lib.Ieee.{in_float}
use lib.Ieee.Fits.{down_pos}
use lib.Ieee.Exact.{HasValue, round_exact}
use lib.Ieee.Back.{round_whole}
use lib.Ieee.Scale.{round_same}
use Rattle.integer.specs.Rounding.{M}
use Rattle.floats.specs.Worth.{finite}
use Rattle.floats.specs.Sample.{leaves}
use Rattle.floats.proofs.Laws.{same_sign}

-- ---- outward: n / 2^23
-- 2^-23 times a float that is n is the f32 nearest to n / 2^23
down_23 : (x : Float) (s : Bool) (n : ℕ) → HasValue x s n 1
    → mul binary32 x (fin false 1 (negsuc 22)) ≡ round binary32 s n (2 ^ 23)
unfolding mul
down_23 nan s n v = absurd v
down_23 (inf t) s n v = absurd v
down_23 (fin t m e) s n v =
    ap (λ (b : Bool). round binary32 b (m * up e * 1) (down e * 8388608)) (same_sign t ∙ v.0)
    ∙ round_same binary32 s (m * up e * 1) (down e * 8388608) n 8388608
    (mul-pos (down_pos e) (lit< tt)) (lit< tt) (omega (arith, v.1))

pub leaves-is : (z : ℤ) → nat_abs z ≤ M
    → mul binary32 (of_int binary32 z) (of_bits binary32 872415232) ≡ leaves z
unfolding of_int of_bits leaves
leaves-is (pos n) h =
    down_23 (round binary32 false n 1) false n (round_whole binary32 false n (omega arith))
leaves-is (negsuc n) h =
    down_23 (round binary32 true (suc n) 1) true (suc n) (round_whole binary32 true (suc n) (omega arith))

pub whole_float : (z : ℤ) → nat_abs z ≤ M → T (in_float binary32 z)
unfolding in_float
whole_float (pos n) h = le→leb n 16777216 (omega arith)
whole_float (negsuc n) h = lt→ltb n 16777216 (omega arith)

-- ---- 0 times x is a NaN where x is not finite
eq_self : (x : Float) → T (finite x) → eq x x ≡ true
unfolding eq
eq_self nan f = absurd f
eq_self (inf s) f = absurd f
eq_self (fin true m e) f = rw (eq-eqb (m * up e * down e) (m * up e * down e) refl)
eq_self (fin false m e) f = rw (eq-eqb (m * up e * down e) (m * up e * down e) refl)

value-finite : (x : Float) (s : Bool) (a c : ℕ) → HasValue x s a c → T (finite x)
value-finite nan s a c v = v
value-finite (inf t) s a c v = v
value-finite (fin t m e) s a c v = tt

zero-value : (s : Bool) (m : ℕ) (c : ℕ) → 0 < c → HasValue (round binary32 s (m * 0) c) s (m * 0) c
zero-value s m c h = round_exact binary32 s (m * 0) c 0 0 h (lit< tt) (lit< tt) (simp (mul-zero, zero-mul))

pub nought : (x : Float)
    → eq (mul binary32 x (of_bits binary32 0)) (mul binary32 x (of_bits binary32 0)) ≡ finite x
unfolding mul of_bits
nought nan = unfold eq in refl
nought (inf s) = unfold eq in refl
nought (fin s m e) =
    let t = unlike s false in
    let z = zero-value t (m * up e) (down e * 1) (omega (arith, down_pos e)) in
    let r = round binary32 t (m * up e * 0) (down e * 1) in
    eq_self r (value-finite r t (m * up e * 0) (down e * 1) z)
