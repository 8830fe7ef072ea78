-- What `note` returns, in ≤ and document 01's numbers: of `pitch`, which its contract says it returns. T, L
-- and d are the paper's conditions, no table. proofs/Returns.antt proves `Returns`. Assumes nothing.
use Rattle.std.specs.Prelude.{◌≡◌, ◌↔◌, ℕ, ◌+◌, ◌*◌, ◌-◌, ◌^◌, ◌<◌, ℤ, pos, ◌+ℤ◌, ◌-ℤ◌, ◌*ℤ◌, ◌≤ℤ◌}
use Rattle.integer.specs.Rounding.{Nearest}
use Rattle.integer.specs.Parts.{up, dn}
use Rattle.refusal.specs.Limits.{Between}
use Rattle.refusal.specs.Ranges.{InRange}
use Rattle.pitch.specs.Pitch.{pitch}
use Rattle.pitch.specs.Pitch.{Pitch}

-- "m − 69 = 12·o + k with k from 0 to 11", "with t that entry, (2t − 1)^12 < 2^(300 + k) < (2t + 1)^12",
-- "T is fs × 2^36/(440·t·2^o), nearest, half upward": 2^o stands below, or above where o is below zero
pub record Period (fs m : ℕ) (T : ℤ) : Type 0 where
  pub o : ℤ
  pub k : ℕ
  pub t : ℕ
  pub place : pos m -ℤ pos 69 ≡ pos 12 *ℤ o +ℤ pos k
  pub below : k < 12
  pub low : (2 * t - 1) ^ 12 < 2 ^ (300 + k)
  pub high : 2 ^ (300 + k) < (2 * t + 1) ^ 12
  pub nearest : Nearest (pos (fs * 2 ^ 36 * 2 ^ dn o)) (440 * t * 2 ^ up o) T

-- "Then T − 2,048 = 4,096·L + d with d in the order's range"
pub record Splits (N : ℕ) (T L : ℤ) (d : ℕ) : Type 0 where
  pub sum : T -ℤ pos 2048 ≡ pos 4096 *ℤ L +ℤ pos d
  pub range : InRange N d

pub record Sounds (N fs m : ℕ) (L : ℤ) (d : ℕ) : Type 0 where
  pub T : ℤ
  pub period : Period fs m T
  pub splits : Splits N T L d

pub record Sounding (N fs m : ℕ) : Type 0 where
  pub L : ℤ
  pub d : ℕ
  pub sounds : Sounds N fs m L d

-- L is from 1 to 2,048
pub record Long (L : ℤ) : Type 0 where
  pub least : pos 1 ≤ℤ L
  pub most : L ≤ℤ pos 2048

-- "Note: 1, 11 rate outside 8,000 to 192,000, 12 note above 127, 13 L outside 1 to 2,048; L and d come back
-- 0"
module _ (N fs m : ℕ) where
  pub record Notes (r : Pitch) : Type 0 where
    pub order : (r.refusal ≡ 1) ↔ (Between 1 N 3 → ⊥)
    pub rate : (r.refusal ≡ 11) ↔ (Between 1 N 3 × (Between 8000 fs 192000 → ⊥))
    pub note : (r.refusal ≡ 12) ↔ (Between 1 N 3 × (Between 8000 fs 192000 × (Between 0 m 127 → ⊥)))
    pub length :
        (r.refusal ≡ 13)
        ↔ (Between 1 N 3 × (Between 8000 fs 192000 × (Between 0 m 127
        × ((L : ℤ) (d : ℕ) → Sounds N fs m L d → Long L → ⊥))))
    pub accepted :
        (r.refusal ≡ 0)
        ↔ (Between 1 N 3 × (Between 8000 fs 192000 × (Between 0 m 127
        × ((L : ℤ) (d : ℕ) → Sounds N fs m L d → Long L))))
    pub refused : (r.refusal ≡ 0 → ⊥) → (r.length ≡ 0) × (r.delay ≡ 0)
    pub given : r.refusal ≡ 0 → Sounds N fs m (pos r.length) r.delay

pub record Returns : Type 0 where
  pub notes : (N fs m : ℕ) → Notes N fs m (pitch N fs m)
  -- an order, a rate and a note have an L and a d, and no other
  pub some : (N fs m : ℕ) → Between 1 N 3 → Sounding N fs m
  pub only : (N fs m : ℕ) (L M : ℤ) (d e : ℕ) → Sounds N fs m L d → Sounds N fs m M e → (L ≡ M) × (d ≡ e)
