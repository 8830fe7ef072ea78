-- Frames from outside: each number if and only if, in what the float is worth; what a frame leaves and what
-- its sides are; a block of frames is n frames one after the other. Document 02, L13.
-- Statements alone: proofs/Theorems.antt and proofs/Runs.antt prove them.
use Rattle.std.specs.Prelude.{◌≡◌, ◌↔◌, List, [], ◌∷◌, map, ℕ, ◌+◌, ◌≤◌, ◌<◌, ℤ, pos, negsuc, nat_abs, Float, length, take, get_or}
use Rattle.std.specs.Float.{nan}
use Rattle.integer.specs.Rounding.{M, clip}
use Rattle.floats.specs.Sample.{leaves, enters}
use Rattle.floats.specs.Theorems.{Exact}
use Rattle.floats.specs.Returns.{NotFinite, Inside, Sampled}
use Rattle.instrument.specs.Strings.{Strings, mix, number, play, plays, total}
use Rattle.instrument.specs.Mix.{put_in}
use Rattle.host.specs.Frames.{frame_number, one_sample, frame_leaves, left_side, right_side, silent_frame}
use Rattle.host.specs.Frames.{frame_out, Run, run, stop, frames, after_frames}

-- the number n of a frame
pub record FrameReturns (x : Float) (n : ℕ) : Type 0 where
  pub not_finite : (n ≡ 26) ↔ NotFinite x
  pub outside : (n ≡ 27) ↔ ((NotFinite x → ⊥) × (Inside (negsuc 0) x (pos 1) → ⊥))
  pub accepted : (n ≡ 0) ↔ ((NotFinite x → ⊥) × Inside (negsuc 0) x (pos 1))

-- an accepted frame
pub record Accepted (s : Strings) (x : Float) : Type 0 where
  -- the sample that goes in: "the nearest whole number of 1/2^23, half upward, then clip"
  pub sample : Sampled x (enters x).n
  -- the six States that a mix of this one sample leaves, which is accepted
  pub mixes : number s (one_sample x) ≡ 0
  pub states : (j : ℕ) → frame_leaves s x j ≡ play s (one_sample x) j
  -- the sides are the clipped sums of what three strings put out in that block, and leave exactly
  pub left : (frame_out s x).left ≡ leaves (clip (total (put_in s ((enters x).n ∷ []) 1 0) 3))
  pub right : (frame_out s x).right ≡ leaves (clip (total (λ k. put_in s ((enters x).n ∷ []) 1 0 (3 + k)) 3))
  pub exact_left : Exact (left_side s)
  pub exact_right : Exact (right_side s)

-- "Nothing changes; a refused frame is 0, 0"
pub record Refused (s : Strings) (x : Float) : Type 0 where
  pub states : (j : ℕ) → frame_leaves s x j ≡ s j
  pub frame : frame_out s x ≡ silent_frame

pub record Frames : Type 0 where
  pub returns : (x : Float) → FrameReturns x (frame_number x)
  pub accepted : (s : Strings) (x : Float) → frame_number x ≡ 0 → Accepted s x
  pub refused : (s : Strings) (x : Float) → (frame_number x ≡ 0 → ⊥) → Refused s x

-- ---- a block of frames
abbrev pub input_at : List Float → ℕ → Float
input_at xs i = get_or xs i nan

pub record Runs (s : Strings) (xs : List Float) (r : Run) : Type 0 where
  pub many : length r.frames ≡ r.done
  -- each frame is one of the call `frame`, on the strings that those before it left
  pub each : (i : ℕ) → i < r.done
      → (frame_number (input_at xs i) ≡ 0)
      × (get_or r.frames i silent_frame ≡ frame_out (after_frames s xs i) (input_at xs i))
  pub states : (j : ℕ) → r.strings j ≡ after_frames s xs r.done j
  -- as so many mixes of one sample, so that the strings' shares go on
  pub mixes : (j : ℕ) → r.strings j ≡ plays s (map one_sample (take r.done xs)) j
  -- the first refused frame ends it with its number
  pub whole : r.number ≡ 0 → r.done ≡ length xs
  pub ended : (r.number ≡ 0 → ⊥) → (r.done < length xs) × (r.number ≡ frame_number (input_at xs r.done))

pub record Blocks : Type 0 where
  pub runs : (s : Strings) (xs : List Float) → Runs s xs (run s xs)
  pub even : (s : Strings) (xs : List Float) (l r : ℕ) → (l ≡ length xs) × (r ≡ length xs)
      → frames s xs l r ≡ run s xs
  -- 9, and nothing is done
  pub uneven : (s : Strings) (xs : List Float) (l r : ℕ) → ((l ≡ length xs) × (r ≡ length xs) → ⊥)
      → frames s xs l r ≡ stop 9 s
