-- The click figure over frames: each side differs from the ideal side by at most the sum of the figures of
-- its strings that retune. Document 02, L13, with L11. A statement alone: proofs/Figures.antt proves it.
use Rattle.std.specs.Prelude.{◌≡◌, List, [], ◌∷◌, ℕ, ◌+◌, ◌≤◌, ℤ, nat_abs, ◌-ℤ◌, Float}
use Rattle.integer.specs.Rounding.{clip}
use Rattle.floats.specs.Sample.{enters}
use Rattle.instrument.specs.Strings.{Play, Strings, silent, plays, total}
use Rattle.instrument.specs.Mix.{put_in, Member, ideal, adds, sum}
use Rattle.host.specs.Frames.{frame_number, left_side, right_side}

-- a frame after the calls ps, among which a frame or an event stands as the call that it is
module _ (ps : List Play) (x : Float) (K : (k : ℕ) → Member ps ((enters x).n ∷ []) 1 0 k) where
  abbrev strings : Strings
  strings = plays silent ps

  -- what string k gives to the ideal frame
  abbrev pub ideal_of : ℕ → ℤ
  ideal_of k = ideal (put_in strings ((enters x).n ∷ []) 1 0 k) (K k)

  pub record SideFigures : Type 0 where
    pub left : nat_abs (left_side strings -ℤ clip (total (λ k. ideal_of k) 3)) ≤ sum (λ k. adds (K k)) 3
    pub right :
        nat_abs (right_side strings -ℤ clip (total (λ k. ideal_of (3 + k)) 3)) ≤ sum (λ k. adds (K (3 + k))) 3

abbrev pub FrameFigure : Type 0
FrameFigure =
    (ps : List Play) (x : Float) (K : (k : ℕ) → Member ps ((enters x).n ∷ []) 1 0 k)
    → frame_number x ≡ 0 → SideFigures ps x K
