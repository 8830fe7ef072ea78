-- What the conversions return, in what the float is worth: each number if and only if its condition holds,
-- and what comes with 0. proofs/Returns.antt and proofs/Delays.antt prove `Returns`.
use Rattle.std.specs.Prelude.{◌≡◌, ℕ, ◌^◌, min, Bool, ◌↔◌, ℤ, pos, negsuc, ◌*ℤ◌, ◌≤ℤ◌, ◌≢◌, Float}
use Rattle.std.specs.Float.{nan, inf}
use Rattle.integer.specs.Rounding.{Nearest, clip}
use Rattle.refusal.specs.Limits.{Between}
use Rattle.pitch.specs.Pitch.{Pitch}
use Rattle.pitch.specs.Returns.{Splits, Long}
use Rattle.floats.specs.Sample.{Sample}
use Rattle.floats.specs.Loss.{Loss}
use Rattle.floats.specs.Worth.{above, unit}
use Rattle.floats.specs.Sample.{enters}
use Rattle.floats.specs.Loss.{loss}
use Rattle.floats.specs.Delay.{split}

-- "not a number or infinite"
pub data NotFinite : Float → Type 0 where
  not_a_number : NotFinite nan
  infinite : {s : Bool} → NotFinite (inf s)

-- x is from low to high
pub record Inside (low : ℤ) (x : Float) (high : ℤ) : Type 0 where
  pub least : (low *ℤ pos (unit x)) ≤ℤ above x
  pub most : above x ≤ℤ (high *ℤ pos (unit x))

-- "the nearest whole number of 1/2^23, half upward, then clip"
pub record Sampled (x : Float) (n : ℤ) : Type 0 where
  pub A : ℤ
  pub nearest : Nearest (above x *ℤ pos (2 ^ 23)) (unit x) A
  pub clipped : n ≡ clip A

-- "26 not a number or infinite; 27 a sample outside −1 to 1"
pub record Samples (x : Float) (r : Sample) : Type 0 where
  pub not_finite : (r.refusal ≡ 26) ↔ NotFinite x
  pub outside : (r.refusal ≡ 27) ↔ ((NotFinite x → ⊥) × (Inside (negsuc 0) x (pos 1) → ⊥))
  pub accepted : (r.refusal ≡ 0) ↔ ((NotFinite x → ⊥) × Inside (negsuc 0) x (pos 1))
  pub refused : (r.refusal ≢ 0) → r.n ≡ pos 0
  pub given : r.refusal ≡ 0 → Sampled x r.n

-- "the loss to 1/65,536 and at most 65,535", half upward
pub record Lost (x : Float) (g : ℕ) : Type 0 where
  pub A : ℕ
  pub nearest : Nearest (above x *ℤ pos 65536) (unit x) (pos A)
  pub most : g ≡ min A 65535

-- "26 not a number or infinite; 27 .. a loss outside 0 to 1"
pub record Losses (x : Float) (r : Loss) : Type 0 where
  pub not_finite : (r.refusal ≡ 26) ↔ NotFinite x
  pub outside : (r.refusal ≡ 27) ↔ ((NotFinite x → ⊥) × (Inside (pos 0) x (pos 1) → ⊥))
  pub accepted : (r.refusal ≡ 0) ↔ ((NotFinite x → ⊥) × Inside (pos 0) x (pos 1))
  pub refused : (r.refusal ≢ 0) → r.g ≡ 0
  pub given : r.refusal ≡ 0 → Lost x r.g

-- "the delay is rounded to 1/4,096 and split like a note's T", half upward
pub record Delayed (N : ℕ) (x : Float) (L : ℤ) (d : ℕ) : Type 0 where
  pub T : ℤ
  pub nearest : Nearest (above x *ℤ pos 4096) (unit x) T
  pub splits : Splits N T L d

-- 1 for the order; "26 not a number or infinite"; "a delay then meets 13": no L from 1 to 2,048
pub record Delays (N : ℕ) (x : Float) (r : Pitch) : Type 0 where
  pub order : (r.refusal ≡ 1) ↔ (Between 1 N 3 → ⊥)
  pub not_finite : (r.refusal ≡ 26) ↔ (Between 1 N 3 × NotFinite x)
  pub length :
      (r.refusal ≡ 13)
      ↔ (Between 1 N 3 × ((NotFinite x → ⊥) × ((L : ℤ) (d : ℕ) → Delayed N x L d → Long L → ⊥)))
  pub accepted :
      (r.refusal ≡ 0)
      ↔ (Between 1 N 3 × ((NotFinite x → ⊥) × ((L : ℤ) (d : ℕ) → Delayed N x L d → Long L)))
  pub refused : (r.refusal ≢ 0) → (r.length ≡ 0) × (r.delay ≡ 0)
  pub given : r.refusal ≡ 0 → Delayed N x (pos r.length) r.delay

pub record Returns : Type 0 where
  pub samples : (x : Float) → Samples x (enters x)
  pub losses : (x : Float) → Losses x (loss x)
  pub delays : (N : ℕ) (x : Float) → Delays N x (split N x)
  -- a float has one L and one d at an order
  pub only : (N : ℕ) (x : Float) (L K : ℤ) (d e : ℕ) → Delayed N x L d → Delayed N x K e → (L ≡ K) × (d ≡ e)
