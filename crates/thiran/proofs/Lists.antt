-- What callers use of the list of coefficients: its length, each by its place, 0 past the order, and sizes.
-- Assumes nothing.
use mathlib.Core.Path.{◌≡◌, refl, sym, ap, ◌∙◌}
use mathlib.Core.List.{List, [], ◌∷◌}
use Prim.Native.Nat.{ℕ, zero, suc, ◌+◌, ◌≤◌, ◌<◌}
use native.Mathlib.Omega.{arith}
use lib.Dec.{lit<}
use lib.IntN.{ℤ, pos, neg_ℤ, nat_abs, zero-*ℤ}
use lib.ListN.{length, get_or}
use Rattle.integer.specs.Rounding.{nearest, floor}
use Rattle.refusal.specs.Orders.{lowest, Takes}
use Rattle.thiran.specs.Formula.{choose, sign, a}
use Rattle.thiran.specs.Coefficients.{coefficient, coefficients_from, coefficients, norm}
use Rattle.thiran.proofs.Cancelled.{coefficient-same}
use Rattle.thiran.proofs.Small.{norm-coefficients}

length_from : (N d k n : ℕ) → length (coefficients_from N d k n) ≡ n
length_from N d k zero = refl
length_from N d k (suc n) = ap suc (length_from N d (suc k) n)

pub length-coefficients : (N d : ℕ) → length (coefficients N d) ≡ N
unfolding coefficients
length-coefficients N d = length_from N d 1 N

-- ---- past the order
choose-past : (N k : ℕ) → N < k → choose N k ≡ 0
choose-past N zero h = absurd (omega arith)
choose-past zero (suc k) h = refl
choose-past (suc N) (suc k) h =
    omega (arith, choose-past N k (omega arith), choose-past N (suc k) (omega arith))

sign_0 : (k : ℕ) → sign k (pos 0) ≡ pos 0
sign_0 zero = refl
sign_0 (suc k) = ap neg_ℤ (sign_0 k)

pub coefficient-past : (N d k : ℕ) → lowest N ≤ d → N < k → coefficient N d k ≡ pos 0
unfolding a nearest floor
coefficient-past N d k l h =
    let e = ap (λ (n : ℕ). sign k (pos n)) (choose-past N k h) ∙ sign_0 k in
    coefficient-same N d k l (omega arith) (pos 0) 1 (lit< tt) (record { cross = simp (e, zero-*ℤ) })

-- ---- each by its place, which is one less than its index
from_at : (N d j n i : ℕ) → lowest N ≤ d → N < j + n
    → get_or (coefficients_from N d j n) i (pos 0) ≡ coefficient N d (j + i)
from_at N d j zero i l h = sym (coefficient-past N d (j + i) l (omega arith))
from_at N d j (suc n) zero l h = let e : j ≡ j + 0 = omega arith in ap (coefficient N d) e
from_at N d j (suc n) (suc i) l h =
    let e : suc j + i ≡ j + suc i = omega arith in
    from_at N d (suc j) n i l (omega arith) ∙ ap (coefficient N d) e

pub coefficient-at : (N d i : ℕ) → lowest N ≤ d → get_or (coefficients N d) i (pos 0) ≡ coefficient N d (suc i)
unfolding coefficients
coefficient-at N d i l =
    let e : 1 + i ≡ suc i = omega arith in
    from_at N d 1 N i l (omega arith) ∙ ap (coefficient N d) e

-- ---- sizes
at-most-norm : (A : List ℤ) (i : ℕ) → nat_abs (get_or A i (pos 0)) ≤ norm A
at-most-norm [] i = omega arith
at-most-norm (x ∷ A) zero = omega arith
at-most-norm (x ∷ A) (suc i) = omega (arith, at-most-norm A i)

pub coefficient-small : (N d i : ℕ) → Takes N d → nat_abs (get_or (coefficients N d) i (pos 0)) ≤ 32768
coefficient-small N d i t = omega (arith, at-most-norm (coefficients N d) i, norm-coefficients N d t)
