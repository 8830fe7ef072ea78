-- How large the products of a filter are, so that its sums fit: 2^39 each, and 2^40 two of them.
-- Assumes nothing.
use mathlib.Core.Path.{◌≡◌, refl}
use mathlib.Core.List.{List}
use Prim.Native.Nat.{ℕ, zero, suc, ◌*◌, ◌≤◌, ◌<◌, ◌^◌}
use native.Mathlib.Omega.{arith}
use native.Mathlib.Nat.{mul-le-mul}
use lib.IntN.{ℤ, pos, nat_abs, ◌*ℤ◌}
use lib.ListN.{get_or}
use Rattle.integer.specs.Rounding.{M}
use Rattle.integer.proofs.Ring.{abs-*, abs-+}
use Rattle.refusal.specs.Orders.{orders}
use Rattle.thiran.specs.Coefficients.{norm}
use Rattle.thiran.specs.Answers.{taps}
use Rattle.thiran.specs.declared.formula.Coefficients.{Coefficients}
use Rattle.allpass.specs.Bounds.{Within, none, more}
use Rattle.allpass.specs.Stored.{held}
use Rattle.allpass.specs.Products.{scaled_of, last_of, turned_of, number, products_of}
use Rattle.allpass.specs.declared.State.{State}
use Rattle.allpass.specs.declared.multiples.Multiples.{Multiples}
use Rattle.allpass.specs.declared.products.Products.{Products}

-- ---- the coefficients and the numbers of the state
pub a1-small : (N : ℕ) (c : Coefficients) → 1 ≤ N → nat_abs c.a1 ≤ norm (taps N c)
a1-small zero c l = absurd (omega arith)
a1-small (suc N) c l = omega arith

pub a2-small : (N : ℕ) (c : Coefficients) → 2 ≤ N → nat_abs c.a2 ≤ norm (taps N c)
a2-small zero c l = absurd (omega arith)
a2-small (suc zero) c l = absurd (omega arith)
a2-small (suc (suc N)) c l = omega arith

pub a3-small : (N : ℕ) (c : Coefficients) → 3 ≤ N → nat_abs c.a3 ≤ norm (taps N c)
a3-small zero c l = absurd (omega arith)
a3-small (suc zero) c l = absurd (omega arith)
a3-small (suc (suc zero)) c l = absurd (omega arith)
a3-small (suc (suc (suc N))) c l = omega arith

-- the numbers of a state, and 0 past its order
module _ (v : State) where
  pub number-first : (N : ℕ) → 1 ≤ N → number N v 0 ≡ v.v1
  number-first zero l = absurd (omega arith)
  number-first (suc N) l = refl

  pub number-second : (N : ℕ) → 2 ≤ N → number N v 1 ≡ v.v2
  number-second zero l = absurd (omega arith)
  number-second (suc zero) l = absurd (omega arith)
  number-second (suc (suc N)) l = refl

  pub number-third : (N : ℕ) → 3 ≤ N → number N v 2 ≡ v.v3
  number-third zero l = absurd (omega arith)
  number-third (suc zero) l = absurd (omega arith)
  number-third (suc (suc zero)) l = absurd (omega arith)
  number-third (suc (suc (suc N))) l = refl

  pub number_past : (N : ℕ) → N < 3 → number N v 2 ≡ pos 0
  number_past zero l = refl
  number_past (suc zero) l = refl
  number_past (suc (suc zero)) l = refl
  number_past (suc (suc (suc N))) l = absurd (omega arith)

get_d_within : {B : ℕ} {v : List ℤ} → Within B v → (i : ℕ) → nat_abs (get_or v i (pos 0)) ≤ B
get_d_within none i = omega arith
get_d_within (more p h) zero = p
get_d_within (more p h) (suc i) = get_d_within h i

pub number-within : {B : ℕ} (N : ℕ) (v : State) → Within B (held N v) → (i : ℕ) → nat_abs (number N v i) ≤ B
number-within N v h i = get_d_within h i

-- ---- one product each
pub record Little (x : Multiples) : Type 0 where
  pub one : nat_abs x.x1 ≤ 2 ^ 39
  pub two : nat_abs x.x2 ≤ 2 ^ 39
  pub three : nat_abs x.x3 ≤ 2 ^ 39

product : (a x : ℤ) → nat_abs a ≤ 32768 → nat_abs x ≤ 2 * M → nat_abs (a *ℤ x) ≤ 2 ^ 39
product a x p h = omega (arith, abs-* a x, mul-le-mul p h)

pub scaled_little : (N : ℕ) (c : Coefficients) (x : ℤ) → 1 ≤ N → N ≤ orders → norm (taps N c) ≤ 32768
    → nat_abs x ≤ 2 * M → Little (scaled_of N c x)
scaled_little zero c x l m n h = absurd (omega arith)
scaled_little (suc zero) c x l m n h = record {
  one = product c.a1 x (omega arith) h;
  two = omega arith;
  three = omega arith;
}
scaled_little (suc (suc zero)) c x l m n h = record {
  one = product c.a1 x (omega arith) h;
  two = product c.a2 x (omega arith) h;
  three = omega arith;
}
scaled_little (suc (suc (suc zero))) c x l m n h = record {
  one = product c.a1 x (omega arith) h;
  two = product c.a2 x (omega arith) h;
  three = product c.a3 x (omega arith) h;
}
scaled_little (suc (suc (suc (suc N)))) c x l m n h = absurd (omega arith)

pub last_little : (N : ℕ) (x : Multiples) → 1 ≤ N → N ≤ orders → Little x → nat_abs (last_of N x) ≤ 2 ^ 39
last_little zero x l m h = absurd (omega arith)
last_little (suc zero) x l m h = h.one
last_little (suc (suc zero)) x l m h = h.two
last_little (suc (suc (suc zero))) x l m h = h.three
last_little (suc (suc (suc (suc N)))) x l m h = absurd (omega arith)

turned_little : (N : ℕ) (x : Multiples) (m : ℤ) → 1 ≤ N → N ≤ orders → Little x → nat_abs m ≤ 2 ^ 39
    → nat_abs (turned_of N x m) ≤ 2 ^ 40
turned_little zero x m l o h k = absurd (omega arith)
turned_little (suc zero) x m l o h k = omega arith
turned_little (suc (suc zero)) x m l o h k = omega (arith, h.one)
turned_little (suc (suc (suc zero))) x m l o h k = omega (arith, h.two, abs-+ x.x2 m)
turned_little (suc (suc (suc (suc N)))) x m l o h k = absurd (omega arith)

-- ---- those of a state
pub record Fits (k : Products) : Type 0 where
  pub newest : nat_abs k.newest ≤ 2 ^ 39
  pub older : nat_abs k.older ≤ 2 ^ 40
  pub third : nat_abs k.third ≤ 2 ^ 39
  pub turned : nat_abs k.turned ≤ 2 ^ 40

pub products_fit : (N : ℕ) (c : Coefficients) (v : State) → 1 ≤ N → N ≤ orders → norm (taps N c) ≤ 32768
    → Within (2 * M) (held N v) → Fits (products_of N c v)
unfolding products_of
products_fit N c v l m n h =
    let x = scaled_little N c (number N v 0) l m n (number-within N v h 0) in
    let y = scaled_little N c (number N v 1) l m n (number-within N v h 1) in
    let z = scaled_little N c (number N v 2) l m n (number-within N v h 2) in
    let a = (scaled_of N c (number N v 1)).x2 in
    let b = (scaled_of N c (number N v 2)).x3 in
    record {
      newest = x.one;
      older = omega (arith, y.two, z.three, abs-+ a b);
      third = x.three;
      turned = turned_little N (scaled_of N c (number N v 0)) (scaled_of N c (number N v 1)).x1 l m x y.one;
    }
