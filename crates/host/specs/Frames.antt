-- Frames of an instrument, one by one and in blocks: document 02, L13. Definitions alone.
use Rattle.std.specs.Prelude.{cond, false, ◌&&◌, List, [], ◌∷◌, map, ℕ, zero, suc, ◌+◌, eqb, ℤ, pos, Float, length}
use Rattle.std.specs.Float.{fin}
use Rattle.integer.specs.Rounding.{clip}
use Rattle.rule.specs.State.{sounds}
use Rattle.floats.specs.declared.frame.Frame.{Frame}
use Rattle.floats.specs.Sample.{leaves, enters}
use Rattle.instrument.specs.Strings.{Play, mix, Strings, play, total}

-- ---- one frame
-- "26 not a number or infinite; 27 a sample outside −1 to 1"
abbrev pub frame_number : Float → ℕ
frame_number x = (enters x).refusal

-- "unless refused, it is a block of one sample for each of them"
abbrev pub one_sample : Float → Play
one_sample x = mix ((enters x).n ∷ []) 1

-- "Nothing changes"
unfoldable pub frame_leaves : Strings → Float → Strings
frame_leaves s x j = cond (eqb (frame_number x) 0) (play s (one_sample x) j) (s j)

-- "strings 0 to 2 left and 3 to 5 right, each side clipped by itself"
abbrev pub left_side : Strings → ℤ
left_side s = clip (total (λ k. sounds (s k)) 3)

abbrev pub right_side : Strings → ℤ
right_side s = clip (total (λ k. sounds (s (3 + k))) 3)

-- "each whole sample n leaves as n / 2^23, exactly"
abbrev pub frame_of : ℤ → ℤ → Frame
frame_of l r = record { left = leaves l; right = leaves r }

-- "a refused frame is 0, 0"
abbrev pub silent_frame : Frame
silent_frame = record { left = fin false 0 (pos 0); right = fin false 0 (pos 0) }

unfoldable pub frame_out : Strings → Float → Frame
frame_out s x = cond (eqb (frame_number x) 0) (frame_of (left_side s) (right_side s)) silent_frame

-- ---- a block of frames: one after the other, "of which the first refused one ends it"
pub record Run : Type 0 where
  pub number : ℕ
  -- how many frames were done, the strings after them, and the frames
  pub done : ℕ
  pub strings : Strings
  pub frames : List Frame

abbrev pub stop : ℕ → Strings → Run
stop n s = record { number = n; done = 0; strings = s; frames = [] }

abbrev pub later : Frame → Run → Run
later f r =
    record { number = r.number; done = suc r.done; strings = r.strings; frames = f ∷ r.frames }

abbrev pub run : Strings → List Float → Run
run s [] = stop 0 s
run s (x ∷ xs) =
    cond (eqb (frame_number x) 0) (later (frame_out s x) (run (frame_leaves s x) xs)) (stop (frame_number x) s)

-- as many inputs as places on the left and on the right, or 9
unfoldable pub frames : Strings → List Float → ℕ → ℕ → Run
frames s xs left right = cond (eqb left (length xs) && eqb right (length xs)) (run s xs) (stop 9 s)

-- the strings after the first i frames
abbrev pub after_frames : Strings → List Float → ℕ → Strings
after_frames s xs zero = s
after_frames s [] (suc i) = s
after_frames s (x ∷ xs) (suc i) = after_frames (frame_leaves s x) xs i
