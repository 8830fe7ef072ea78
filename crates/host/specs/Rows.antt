-- Frames in the bits of their floats: six strings as they start, each a delay of two samples. Document 02,
-- L13. A statement alone: proofs/Rows.antt computes it.
use Rattle.std.specs.Prelude.{◌≡◌, List, [], ◌∷◌, ℕ, Float}
use Rattle.floats.specs.Rows.{f32}
use Rattle.floats.specs.declared.frame.Frame.{Frame}
use Rattle.instrument.specs.Strings.{silent}
use Rattle.host.specs.Frames.{run, frames}

abbrev pub bits : ℕ → ℕ → Frame
bits l r = record { left = f32 l; right = f32 r }

-- 0.25, then 1.0, two zeros, a NaN (7fc00000), and 1.0
abbrev pub inputs : List Float
inputs = f32 1048576000 ∷ f32 1065353216 ∷ f32 0 ∷ f32 0 ∷ f32 2143289344 ∷ f32 1065353216 ∷ []

pub record Rows : Type 0 where
  -- 0.75 is 3f400000, and 8,388,607 leaves as 3f7ffffe
  pub frames_are : (run silent inputs).frames
      ≡ bits 0 0 ∷ bits 0 0 ∷ bits 1061158912 1061158912 ∷ bits 1065353214 1065353214 ∷ []
  -- the NaN ends it after four frames
  pub number_is : (run silent inputs).number ≡ 26
  pub done_are : (run silent inputs).done ≡ 4
  pub uneven : (frames silent inputs 6 5).number ≡ 9
