-- Effective length, as document 01 has it under "Notes and effective length" and document 02 in L4.
-- Definitions alone. Assumes nothing.
use Rattle.std.specs.Prelude.{cond, List, [], ◌∷◌, ℕ, suc, ltb, eqb, ℤ, pos, nat_abs, replicate, Result, Ok, Err}
use Rattle.refusal.specs.declared.Refusal.{Refusal}
use Rattle.refusal.specs.Numbers.{number_of}
use Rattle.refusal.specs.Limits.{refusal}
use Rattle.thiran.specs.Coefficients.{coefficients}
use Rattle.thiran.specs.Answers.{limits}
use Rattle.allpass.specs.Allpass.{rest, inners}

-- "feed 1,000,000 and then 63 zeros to a resting eliminator": the 64 values w
unfoldable pub response : List ℤ → ℕ → List ℤ
response A N = inners A (rest N) (pos 1000000 ∷ replicate 63 (pos 0))

-- "the index of the last of the 64 values above the threshold, plus one, or 0 where none is" (document 02, L4):
-- "in magnitude", as document 01 has it; where none of ws is above it, w decides
unfoldable pub last_above : ℕ → List ℤ → ℕ
last_above t [] = 0
last_above t (w ∷ ws) =
    cond (eqb (last_above t ws) 0) (cond (ltb t (nat_abs w)) 1 0) (suc (last_above t ws))

-- what the routine returns: its number, 0 for success, and the effective length
pub record Measured : Type 0 where
  pub refusal : ℕ
  pub length : ℕ

abbrev pub measured : Result ℕ Refusal → Measured
measured (Ok n) = record { refusal = 0; length = n }
measured (Err r) = record { refusal = number_of r; length = 0 }

-- "Effective length: 1, 3; it returns 0"
unfoldable pub effective_length : ℕ → ℕ → ℕ → Measured
effective_length N d t =
    cond (eqb (refusal (limits N d)) 0)
    (record { refusal = 0; length = last_above t (response (coefficients N d) N) })
    (record { refusal = refusal (limits N d); length = 0 })
