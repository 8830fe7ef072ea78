-- What `coefficients` returns, in ≤, document 01's numbers and its fractions: of `design`, which its contract
-- says it returns. Statements alone: proofs/Returns.antt proves `Returns`. Assumes nothing.
use Rattle.std.specs.Prelude.{◌≡◌, ℕ, ◌+◌, ◌*◌, pos, ◌-ℤ◌, ◌*ℤ◌}
use Rattle.integer.specs.Rounding.{Nearest}
use Rattle.refusal.specs.Limits.{Between}
use Rattle.refusal.specs.Ranges.{OrderDelay}
use Rattle.thiran.specs.Answers.{design}
use Rattle.thiran.specs.Answers.{Design}

-- "Order 1: a1 = (1 − D)/(1 + D); a2 = 0", with 4,096 D for d; "65,536 times .., rounded to the nearest"
pub record First (d : ℕ) (r : Design) : Type 0 where
  pub a1 : Nearest (pos 65536 *ℤ (pos 4096 -ℤ pos d)) (4096 + d) r.a1
  pub a2 : r.a2 ≡ pos 0
  pub a3 : r.a3 ≡ pos 0

-- "Order 2: a1 = −2(D − 2)/(D + 1); a2 = (D − 1)(D − 2)/((D + 1)(D + 2))"
pub record Second (d : ℕ) (r : Design) : Type 0 where
  pub a1 : Nearest (pos 65536 *ℤ (pos 2 *ℤ (pos 8192 -ℤ pos d))) (d + 4096) r.a1
  pub a2 :
      Nearest (pos 65536 *ℤ ((pos d -ℤ pos 4096) *ℤ (pos d -ℤ pos 8192))) ((d + 4096) * (d + 8192)) r.a2
  pub a3 : r.a3 ≡ pos 0

-- Order 3 (L5), "with coefficients from 002 equation (3)": a1 = −3(D − 3)/(D + 1);
-- a2 = 3(D − 2)(D − 3)/((D + 1)(D + 2)); a3 = −(D − 1)(D − 2)(D − 3)/((D + 1)(D + 2)(D + 3))
pub record Third (d : ℕ) (r : Design) : Type 0 where
  pub a1 : Nearest (pos 65536 *ℤ (pos 3 *ℤ (pos 12288 -ℤ pos d))) (d + 4096) r.a1
  pub a2 :
      Nearest (pos 65536 *ℤ (pos 3 *ℤ ((pos d -ℤ pos 8192) *ℤ (pos d -ℤ pos 12288))))
      ((d + 4096) * (d + 8192)) r.a2
  pub a3 :
      Nearest (pos 65536 *ℤ ((pos d -ℤ pos 4096) *ℤ (pos d -ℤ pos 8192) *ℤ (pos 12288 -ℤ pos d)))
      ((d + 4096) * (d + 8192) * (d + 12288)) r.a3

-- "Coefficients: 1, 3; both come back 0"; "Coefficient calls return A3 too, 0 when refused" (L5)
pub record Returns : Type 0 where
  pub number : (N d : ℕ) → OrderDelay N d (design N d).refusal
  pub refused : (N d : ℕ) → ((design N d).refusal ≡ 0 → ⊥)
      → ((design N d).a1 ≡ pos 0) × ((design N d).a2 ≡ pos 0) × ((design N d).a3 ≡ pos 0)
  pub order_1 : (d : ℕ) → Between 2049 d 6144 → First d (design 1 d)
  pub order_2 : (d : ℕ) → Between 6145 d 10240 → Second d (design 2 d)
  pub order_3 : (d : ℕ) → Between 10241 d 14336 → Third d (design 3 d)
