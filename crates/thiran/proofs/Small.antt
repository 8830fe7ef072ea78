-- |A1| + .. + |AN| is at most so much by the order N, at every delay d that N takes, and below 32,768: computed at
-- each 4th d.
-- Assumes nothing.
use mathlib.Core.Path.{◌≡◌, subst}
use mathlib.Core.Bool.{Bool, true, ◌&&◌}
use Prim.Native.Nat.{ℕ, zero, suc, ◌+◌, ◌*◌, ◌-◌, ◌/◌, ◌≤◌, ◌<◌}
use native.Mathlib.Omega.{arith}
use native.Mathlib.Nat.{le_trans, mul-le-mul, mul-le-mul_left}
use native.Mathlib.Decide.{dec_lt}
use lib.Dec.{T, leb, leb→le, lit≤, lit<}
use lib.IntN.{pos, nat_abs, ◌-ℤ◌, ◌*ℤ◌}
use mir.Facts.{and_yes}
use Rattle.integer.specs.Rounding.{nearest, floor}
use Rattle.integer.proofs.View.{absv, -v, near}
use Rattle.integer.proofs.Ring.{abs-*}
use Rattle.integer.proofs.Rounding.{nearest_abs}
use Rattle.refusal.specs.Orders.{orders, lowest, Takes}
use Rattle.thiran.specs.Formula.{factor, a}
use Rattle.thiran.specs.Coefficients.{coefficient, coefficients_from, coefficients, norm}
use Rattle.thiran.specs.Steps.{part}
use Rattle.thiran.proofs.Cancelled.{turned}
use Rattle.thiran.proofs.Steps.{upper, bottom-above, coefficient-part}

-- ---- bounds at the 4 delays from c on: of the size of the code's fraction's top,
module _ (N c : ℕ) where
  abbrev most : ℕ → ℕ
  most zero = 1
  most (suc k) = most k * (nat_abs (pos N -ℤ pos k) * (nat_abs (turned N c k) + 3))

  -- of a coefficient's size, as the bottom is lowest at c,
  abbrev bound : ℕ → ℕ
  bound k = (2 * (65536 * most k) + (part N c k).bottom) / (2 * (part N c k).bottom)

  -- and of n sizes in all, from index k on
  abbrev bounds : ℕ → ℕ → ℕ
  bounds k zero = 0
  bounds k (suc n) = bound k + bounds (suc k) n

module _ (N c d : ℕ) (l : lowest N ≤ c) (g : c ≤ d) (h : d ≤ c + 3) where
  top-most : (k : ℕ) → nat_abs (part N d k).top ≤ most N c k
  top-most zero = lit≤ tt
  top-most (suc k) =
      let n = pos N -ℤ pos k in
      let x = turned N d k in
      let y = turned N c k in
      let u = -v (pos (4096 * N)) (pos (d + 4096 * k)) in
      let v = -v (pos (4096 * N)) (pos (c + 4096 * k)) in
      rw (abs-* (part N d k).top (upper N d k), abs-* n x)
      (mul-le-mul (top-most k)
      (mul-le-mul_left (nat_abs n) (near x {B = nat_abs y + 3} (omega (arith, absv y)))))

  bottom-least : (k : ℕ) → (part N c k).bottom ≤ (part N d k).bottom
  bottom-least zero = lit≤ tt
  bottom-least (suc k) =
      let e : c + 4096 * suc k ≤ d + 4096 * suc k = omega arith in
      mul-le-mul (bottom-least k) (mul-le-mul_left (suc k) e)

  coefficient_bound : (k : ℕ) → 1 ≤ k → nat_abs (coefficient N d k) ≤ bound N c k
  coefficient_bound k i =
      let x = (part N d k).top in
      rw (coefficient-part N d k (omega arith) i)
      (nearest_abs (pos 65536 *ℤ x) (65536 * most N c k) (part N d k).bottom (part N c k).bottom
      (bottom-above N c k) (omega (arith, abs-* (pos 65536) x, top-most k)) (bottom-least k))

  norm_bounds : (k n : ℕ) → 1 ≤ k → norm (coefficients_from N d k n) ≤ bounds N c k n
  norm_bounds k zero i = lit≤ tt
  norm_bounds k (suc n) i = omega (arith, coefficient_bound k i, norm_bounds (suc k) n (omega arith))

-- ---- a test of every number below n, read at one
abbrev every : ℕ → (ℕ → Bool) → Bool
every zero p = true
every (suc n) p = p n && every n p

every_at : (n : ℕ) (p : ℕ → Bool) → T (every n p) → (i : ℕ) → i < n → T (p i)
every_at zero p t i h = absurd (omega arith)
every_at (suc n) p t i h =
    let both = and_yes (p n) (every n p) t in
    go both.0 (every_at n p both.1 i) (dec_lt i n)
  where
    go : T (p n) → (i < n → T (p i)) → Dec (i < n) → T (p i)
    go s f (yes l) = f l
    go s f (no l) = let e : n ≡ i = omega arith in subst (λ (j : ℕ). T (p j)) e s

-- a test of each 4th of the 4 n delays from l on, read at every one of them
fits : ℕ → ℕ → ℕ → ℕ → Bool
fits N B l i = leb (bounds N (l + 4 * i) 1 N) B

norm-from : (N B l n : ℕ) → T (every n (fits N B l)) → lowest N ≤ l
    → (d : ℕ) → l ≤ d → d < l + 4 * n → norm (coefficients N d) ≤ B
unfolding fits coefficients
norm-from N B l n t h d g k =
    let i = (d - l) / 4 in
    let c = l + 4 * i in
    let b = leb→le (bounds N c 1 N) B (every_at n (fits N B l) t i (omega arith)) in
    le_trans (norm_bounds N c d (omega arith) (omega arith) (omega arith) 1 N (omega arith)) b

-- ---- by the order
abbrev pub largest : ℕ → ℕ
largest zero = 0
largest (suc zero) = 21863
largest (suc (suc zero)) = 28115
largest (suc (suc (suc n))) = 31527

abbrev fit_at : ℕ → Bool
fit_at n = let N = suc n in every 1024 (fits N (largest N) (lowest N))

all_fit : T (every orders fit_at)
unfolding fits
all_fit = tt

pub norm_largest : (N d : ℕ) → Takes N d → norm (coefficients N d) ≤ largest N
norm_largest zero d t = absurd (omega (arith, t.least))
norm_largest (suc n) d t =
    let N = suc n in
    norm-from N (largest N) (lowest N) 1024 (every_at orders fit_at all_fit n t.most) (omega arith) d t.low
    (omega (arith, t.high))

-- ---- in order 3, of 3,949 of its 4,096 delays: the first three one by one, since a bound of four is above it there
most-fit : T (every 987 (fits 3 29127 10391))
unfolding fits
most-fit = tt

first-fit : (i : ℕ) → i < 3 → norm (coefficients 3 (10388 + i)) ≤ 29127
unfolding coefficients coefficient nearest floor a factor
first-fit zero h = lit≤ tt
first-fit (suc zero) h = lit≤ tt
first-fit (suc (suc zero)) h = lit≤ tt
first-fit (suc (suc (suc i))) h = absurd (omega arith)

pub norm-most : (d : ℕ) → 10388 ≤ d → d ≤ 14336 → norm (coefficients 3 d) ≤ 29127
norm-most d l h = go (dec_lt d 10391)
  where
    go : Dec (d < 10391) → norm (coefficients 3 d) ≤ 29127
    go (yes i) =
        let e : 10388 + (d - 10388) ≡ d = omega arith in
        subst (λ (x : ℕ). norm (coefficients 3 x) ≤ 29127) e (first-fit (d - 10388) (omega arith))
    go (no i) = norm-from 3 29127 10391 987 most-fit (lit≤ tt) d (omega arith) (omega arith)

largest_below : (N : ℕ) → largest N < 32768
largest_below zero = lit< tt
largest_below (suc zero) = lit< tt
largest_below (suc (suc zero)) = lit< tt
largest_below (suc (suc (suc n))) = lit< tt

pub norm-below : (N d : ℕ) → Takes N d → norm (coefficients N d) < 32768
norm-below N d t = omega (arith, norm_largest N d t, largest_below N)

pub norm-coefficients : (N d : ℕ) → Takes N d → norm (coefficients N d) ≤ 32768
norm-coefficients N d t = omega (arith, norm-below N d t)
