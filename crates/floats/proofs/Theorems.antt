-- specs/Theorems.antt: what leaves is exact, and enters as it was.
use Rattle.std.proofs.Common.{◌≡◌, ℕ, suc, ◌*◌, ◌^◌, ◌≤◌, Bool, true, false, T, ℤ, pos, negsuc, ◌*ℤ◌, nat_abs, sym, refl, ap, ◌∙◌, lt_of_lt_of_le, mul-le-mul_right, mul_assoc, arith, lit<, lit≤, shl_lt, le-ltb}
use lib.Ieee.{Float, nan, inf, fin, binary32, up, down, round}
use lib.Ieee.Bits.{is_true}
use lib.Ieee.Exact.{HasValue, round_exact}
use Rattle.integer.specs.Rounding.{M, nearest}
use Rattle.integer.proofs.View.{Zs, *v, +v, absv}
use Rattle.integer.proofs.Ring.{abs-*}
use Rattle.integer.proofs.Rounding.{nearest-only, nearest-same, clip-kept}
use Rattle.floats.specs.Worth.{finite, size, unit, above, signed}
use Rattle.floats.specs.Sample.{leaves, enters}
use Rattle.floats.specs.Theorems.{Exact, Theorems}
use Rattle.floats.proofs.Laws.{signed_mul}
use Rattle.floats.proofs.Whole.{unit-pos}
use Rattle.floats.proofs.Returns.{sides}

value : (s : Bool) (n : ℕ) → n ≤ M → HasValue (round binary32 s n (2 ^ 23)) s n (2 ^ 23)
value s n h =
    round_exact binary32 s n (2 ^ 23) n 126 (lit< tt) (omega arith)
    (lt_of_lt_of_le (shl_lt 24 126 (omega arith)) (lit≤ tt))
    (sym (mul_assoc n (2 ^ 126) (2 ^ 23)))

-- a float with the value of n / 2^23, with n's sign
equal : (x : Float) (s : Bool) (n : ℕ) → HasValue x s n (2 ^ 23)
    → T (finite x) × (above x *ℤ pos (2 ^ 23) ≡ signed s n *ℤ pos (unit x))
equal nan s n v = absurd v
equal (inf t) s n v = absurd v
equal (fin t m e) s n v = (
  tt,
  signed_mul t (m * up e) (2 ^ 23)
      ∙ ap (signed t) v.1
      ∙ ap (λ (b : Bool). signed b (n * down e)) v.0
      ∙ sym (signed_mul s n (down e)),
)

pub exact : (n : ℤ) → nat_abs n ≤ M → Exact n
unfolding leaves
exact (pos n) h =
    let e = equal (leaves (pos n)) false n (value false n h) in
    record { is_finite = e.0; equal = e.1 }
exact (negsuc n) h =
    let e = equal (leaves (negsuc n)) true (suc n) (value true (suc n) h) in
    record { is_finite = e.0; equal = e.1 }

-- ---- and back
nearest-whole : (n : ℤ) → nearest n 1 ≡ n
nearest-whole n =
    let P = pos 2 *ℤ n in
    sym (nearest-only n 1 n (lit< tt)
    (record { low = omega (Zs, +v P (pos 1)); high = omega (Zs, +v P (pos 1), +v P (pos 2)) }))

module _ (x : Float) (n : ℤ) (h : nat_abs n ≤ M) (e : above x *ℤ pos (2 ^ 23) ≡ n *ℤ pos (unit x)) where
  inside : size x ≤ unit x
  inside =
      let s : nat_abs (above x) * 2 ^ 23 ≡ nat_abs n * unit x
      = sym (abs-* (above x) (pos (2 ^ 23))) ∙ ap nat_abs e ∙ abs-* n (pos (unit x)) in
      omega (arith, s, absv (above x), sides x, mul-le-mul_right (unit x) h)

  nearest-n : nearest (above x *ℤ pos (2 ^ 23)) (unit x) ≡ n
  nearest-n =
      let p = above x *ℤ pos (2 ^ 23) in
      nearest-same p n (unit x) 1 (unit-pos x) (lit< tt) (omega (Zs, e, *v p (pos 1))) ∙ nearest-whole n

back : (n : ℤ) → nat_abs n ≤ M → enters (leaves n) ≡ record { refusal = 0; n = n }
unfolding enters
back n h =
    let x = leaves n in
    let e = exact n h in
    rw (
      is_true (finite x) e.is_finite,
      le-ltb (unit x) (size x) (inside x n h e.equal),
      nearest-n x n h e.equal,
      clip-kept n h,
    )

zero-leaves : leaves (pos 0) ≡ fin false 0 (pos 0)
unfolding leaves round
zero-leaves = refl

pub theorems : Theorems
theorems = record { exact = exact; zero = zero-leaves; back = back }
