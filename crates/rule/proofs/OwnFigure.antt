-- The laws of the own figure: it never exceeds demand 3's, falls with k and rises with n.
use mathlib.Core.Path.{◌≡◌}
use Prim.Native.Nat.{ℕ, zero, suc, ◌+◌, ◌*◌, ◌-◌, ◌^◌, ◌≤◌, ◌<◌}
use native.Mathlib.Omega.{arith}
use native.Mathlib.Decide.{dec_lt}
use native.Mathlib.Nat.{le_trans, mul-le-mul}
use borrow.Author.Tests.{le-leb, lt-leb}
use Rattle.integer.specs.Rounding.{M}
use Rattle.allpass.specs.Bounds.{half, share, shares, distance, own_figure}
use Rattle.allpass.proofs.Bounds.{share-less}
use Rattle.allpass.proofs.Contraction.{share-half, shares-pow}
use Rattle.rule.specs.Click.{figure}
use Rattle.rule.specs.OwnFigure.{OwnFigureLaws}

-- the figure: states 2^(24 − k) distance give outputs that and half of it distance
figure-is : (k : ℕ) → 2 ^ (24 - k) + half (2 ^ (24 - k)) ≤ figure k
unfolding figure
figure-is k = go (dec_lt 23 k)
  where
    go : Dec (23 < k) → 2 ^ (24 - k) + half (2 ^ (24 - k)) ≤ figure k
    go (yes h) = let i : 24 - k ≡ 0 = omega arith in rw (lt-leb k 23 h, i) (omega arith)
    go (no h) = let i : 24 - k ≡ suc (23 - k) = omega arith in rw (le-leb k 23 (omega arith), i) (omega arith)

share-rises : {n p D E : ℕ} → n ≤ p → D ≤ E → share n D ≤ share p E
share-rises h l = omega (arith, mul-le-mul h l)

distance-rises : (n p k : ℕ) → n ≤ p → distance n k ≤ distance p k
unfolding distance
distance-rises n p zero h = omega arith
distance-rises n p (suc k) h = share-rises h (distance-rises n p k h)

distance-falls : (n k K : ℕ) → n ≤ 65536 → K ≤ k → distance n k ≤ distance n K
unfolding distance
distance-falls n zero zero h l = omega arith
distance-falls n zero (suc K) h l = absurd (omega arith)
distance-falls n (suc k) zero h l = le_trans (share-less (distance n k) h) (distance-falls n k zero h (omega arith))
distance-falls n (suc k) (suc K) h l = share-rises {n = n} {p = n} (omega arith) (distance-falls n k K h (omega arith))

pub own_laws : OwnFigureLaws
unfolding own_figure distance
own_laws = record {
  under =
      λ n k h. let b = shares-pow {n = n} (2 * M) 24 k h (omega arith) in
      omega (arith, share-half (shares n (2 * M) k) h, figure-is k);
  falls = λ n k K h l. omega (arith, distance-falls n k K h l, distance-falls n (suc k) (suc K) h (omega arith));
  rises = λ n p k h. omega (arith, distance-rises n p k h, distance-rises n p (suc k) h);
}
