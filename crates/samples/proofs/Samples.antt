-- Laws of the largest magnitude of a list: it bounds each element, and is 0 for zeros.
use mathlib.Core.Path.{◌≡◌, refl, ap₂}
use mathlib.Core.List.{List, [], ◌∷◌}
use Prim.Native.Nat.{ℕ, zero, suc, ◌≤◌, ◌<◌}
use native.Mathlib.Omega.{arith}
use lib.IntN.{ℤ, pos, negsuc, nat_abs}
use lib.ListN.{length, get_or, replicate}
use Rattle.samples.specs.Samples.{loudest}

pub loud : (xs : List ℤ) (i : ℕ) → nat_abs (get_or xs i (pos 0)) ≤ loudest xs
loud [] i = omega arith
loud (x ∷ xs) zero = omega arith
loud (x ∷ xs) (suc i) = omega (arith, loud xs i)

-- ---- zeros
zero-only : (x : ℤ) → nat_abs x ≡ 0 → x ≡ pos 0
zero-only (pos zero) e = refl
zero-only (pos (suc n)) e = absurd (omega arith)
zero-only (negsuc n) e = absurd (omega arith)

pub sounding : (x : ℤ) → (x ≡ pos 0 → ⊥) → 0 < nat_abs x
sounding (pos zero) f = absurd (f refl)
sounding (pos (suc n)) f = omega arith
sounding (negsuc n) f = omega arith

pub silence : (xs : List ℤ) → loudest xs ≡ 0 → xs ≡ replicate (length xs) (pos 0)
silence [] e = refl
silence (x ∷ xs) e =
    let x0 : nat_abs x ≡ 0 = omega arith in
    let xs0 : loudest xs ≡ 0 = omega arith in
    ap₂ ◌∷◌ (zero-only x x0) (silence xs xs0)
