-- Floats by their bits, and what they become: halves, the ends of the ranges, a NaN and the greatest float.
-- proofs/Rows.antt computes each.
use Rattle.std.specs.Prelude.{◌≡◌, ℕ, pos, negsuc, from_bits, Float}
use Rattle.std.specs.Float.{binary32}
use Rattle.floats.specs.Sample.{leaves, enters}
use Rattle.floats.specs.Loss.{loss}
use Rattle.floats.specs.Delay.{split}

abbrev pub f32 : ℕ → Float
f32 b = from_bits binary32 b

pub record Rows : Type 0 where
  -- 34000000 is 2^-23, bf7ffffe is 2^-23 − 1
  pub leaving_one : leaves (pos 1) ≡ f32 872415232
  pub leaving_least : leaves (negsuc 8388606) ≡ f32 3212836862
  -- 337fffff is just below half a unit; 33800000 is half a unit, b3800000 the same below zero
  pub below_half : enters (f32 864026623) ≡ record { refusal = 0; n = pos 0 }
  pub half : enters (f32 864026624) ≡ record { refusal = 0; n = pos 1 }
  pub minus_half : enters (f32 3011510272) ≡ record { refusal = 0; n = pos 0 }
  -- 3f800000 is 1.0, 3f800001 is just above
  pub one : enters (f32 1065353216) ≡ record { refusal = 0; n = pos 8388607 }
  pub past_one : enters (f32 1065353217) ≡ record { refusal = 27; n = pos 0 }
  -- 7fc00000 is a NaN
  pub not_a_number : enters (f32 2143289344) ≡ record { refusal = 26; n = pos 0 }
  -- 1.0 and −0.0 as losses
  pub most_loss : loss (f32 1065353216) ≡ record { refusal = 0; g = 65535 }
  pub minus_zero : loss (f32 2147483648) ≡ record { refusal = 0; g = 0 }
  -- 42c80010 is 100 samples and half a unit of 1/4,096: T is 409,601
  pub half_delay : split 1 (f32 1120403472) ≡ record { refusal = 0; length = 99; delay = 2049 }
  -- 7f7fffff is the greatest finite float
  pub huge : split 1 (f32 2139095039) ≡ record { refusal = 13; length = 0; delay = 0 }
