-- The click figure over frames: `FrameFigure`.
use mathlib.Core.Path.{◌≡◌}
use mathlib.Core.List.{List, [], ◌∷◌}
use Prim.Native.Nat.{ℕ, ◌+◌, ◌≤◌, ◌<◌}
use native.Mathlib.Omega.{arith}
use lib.IntN.{ℤ, nat_abs, ◌-ℤ◌}
use lib.Ieee.{Float}
use Rattle.integer.specs.Rounding.{clip}
use Rattle.integer.proofs.Rounding.{clip-near}
use Rattle.floats.specs.Sample.{enters}
use Rattle.instrument.specs.Strings.{Play, silent, plays, number, total}
use Rattle.instrument.specs.Mix.{put_in, Member, adds, sum}
use Rattle.instrument.proofs.Mix.{total-near, member}
use Rattle.host.specs.Frames.{frame_number}
use Rattle.host.specs.Figures.{ideal_of, SideFigures, FrameFigure}
use Rattle.host.proofs.Theorems.{accepts, left_is, right_is}

module _ (ps : List Play) (x : Float) (K : (k : ℕ) → Member ps ((enters x).n ∷ []) 1 0 k)
    (e : frame_number x ≡ 0) where
  abbrev own : ℕ → ℤ
  own = put_in (plays silent ps) ((enters x).n ∷ []) 1 0

  -- three strings, from string m on
  side : (m : ℕ) → m ≤ 3
      → nat_abs (clip (total (λ k. own (m + k)) 3) -ℤ clip (total (λ k. ideal_of ps x K (m + k)) 3))
      ≤ sum (λ k. adds (K (m + k))) 3
  unfolding number
  side m h =
      clip-near (total (λ k. own (m + k)) 3) (total (λ k. ideal_of ps x K (m + k)) 3)
      (sum (λ k. adds (K (m + k))) 3)
      (total-near (λ k. own (m + k)) (λ k. ideal_of ps x K (m + k)) (λ k. adds (K (m + k))) 3
      (λ k l.
      member ps ((enters x).n ∷ []) 1 0 (omega arith) (accepts (plays silent ps) x e) (m + k) (omega arith)
      (K (m + k))))

  figures : SideFigures ps x K
  figures = record {
    left = rw (left_is (plays silent ps) x e) (side 0 (omega arith));
    right = rw (right_is (plays silent ps) x e) (side 3 (omega arith));
  }

pub frame-figure : FrameFigure
frame-figure ps x K e = figures ps x K e
