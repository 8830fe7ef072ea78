-- Laws of the integers that `lib.IntN` lacks: products, sizes, orders and distances, each by `View`.
-- Assumes nothing.
use mathlib.Core.Path.{◌≡◌, refl, ap}
use Prim.Native.Nat.{ℕ, zero, suc, ◌+◌, ◌*◌, ◌≤◌}
use native.Mathlib.Omega.{arith}
use native.Mathlib.Nat.{mul-le-mul_left}
use lib.IntN.{ℤ, pos, negsuc, neg_ℤ, nat_abs, ◌+ℤ◌, ◌-ℤ◌, ◌*ℤ◌}
use Rattle.integer.specs.Parts.{up, dn}
use Rattle.integer.proofs.View.{+v, -v, *v, absv, near, Zs}

-- an equation times a factor, which `omega` does not make by itself
abbrev pub times : {x y : ℕ} (k : ℕ) → x ≡ y → x * k ≡ y * k
times k e = ap (λ (n : ℕ). n * k) e

pub *-- : (a b c : ℤ) → a *ℤ (b -ℤ c) ≡ a *ℤ b -ℤ a *ℤ c
*-- a b c =
    let s = b -ℤ c in
    omega (Zs, *v a s, *v a b, *v a c, -v (a *ℤ b) (a *ℤ c), times (up a) (-v b c), times (dn a) (-v b c))

pub *-assoc : (a b c : ℤ) → (a *ℤ b) *ℤ c ≡ a *ℤ (b *ℤ c)
*-assoc a b c =
    let l = times (up c) (*v a b) in
    let m = times (dn c) (*v a b) in
    omega (Zs, *v (a *ℤ b) c, *v a (b *ℤ c), l, m, times (up a) (*v b c), times (dn a) (*v b c))

-- the size of a product, of a sum and of a difference
abs_neg : (n : ℕ) → nat_abs (neg_ℤ (pos n)) ≡ n
abs_neg zero = refl
abs_neg (suc n) = refl

pub abs-* : (a b : ℤ) → nat_abs (a *ℤ b) ≡ nat_abs a * nat_abs b
abs-* (pos a) (pos b) = refl
abs-* (pos a) (negsuc b) = abs_neg (a * suc b)
abs-* (negsuc a) (pos b) = abs_neg (suc a * b)
abs-* (negsuc a) (negsuc b) = refl

pub abs-+ : (a b : ℤ) → nat_abs (a +ℤ b) ≤ nat_abs a + nat_abs b
abs-+ a b = near (a +ℤ b) (omega (Zs, +v a b, absv a, absv b))

pub abs-- : (a b : ℤ) → nat_abs (a -ℤ b) ≤ nat_abs a + nat_abs b
abs-- a b = near (a -ℤ b) (omega (Zs, -v a b, absv a, absv b))

-- ---- how far apart two numbers are: what each operation does to a bound on it
pub add-near : (x y s t : ℤ) {D E : ℕ} → nat_abs (x -ℤ y) ≤ D → nat_abs (s -ℤ t) ≤ E
    → nat_abs ((x +ℤ s) -ℤ (y +ℤ t)) ≤ D + E
add-near x y s t h k =
    near ((x +ℤ s) -ℤ (y +ℤ t))
    (omega (arith, -v (x +ℤ s) (y +ℤ t), +v x s, +v y t, -v x y, -v s t, absv (x -ℤ y), absv (s -ℤ t)))

pub sub-near : (f x y : ℤ) {E : ℕ} → nat_abs (x -ℤ y) ≤ E → nat_abs ((f -ℤ x) -ℤ (f -ℤ y)) ≤ E
sub-near f x y h =
    near ((f -ℤ x) -ℤ (f -ℤ y))
    (omega (arith, -v (f -ℤ x) (f -ℤ y), -v f x, -v f y, -v x y, absv (x -ℤ y)))

pub mul-near : (a x y : ℤ) {E : ℕ} → nat_abs (x -ℤ y) ≤ E → nat_abs (a *ℤ x -ℤ a *ℤ y) ≤ nat_abs a * E
mul-near a x y h = rw (← *-- a x y, abs-*) (mul-le-mul_left (nat_abs a) h)
