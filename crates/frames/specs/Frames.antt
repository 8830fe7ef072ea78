-- What a frame on a host's rows returns and leaves, as crate host has it (document 02, L13).
use Rattle.std.specs.Prelude.{◌≡◌, List, ℕ, ◌≤◌, ℤ, Float, Result, Ok, Err}
use Rattle.refusal.specs.declared.Refusal.{Refusal}
use Rattle.strings.specs.Rows.{strings_of, Voices}
use Rattle.floats.specs.declared.frame.Frame.{Frame}
use Rattle.host.specs.Frames.{frame_number, frame_leaves, frame_out, silent_frame}

-- the frame that is returned: "a refused frame is 0, 0"
abbrev pub framed : Result Frame Refusal → Frame
framed (Ok f) = f
framed (Err r) = silent_frame

-- a frame that left the number n, returned r and left the words gs and the lines ks
pub record Framed (hs : List (List ℕ)) (ls : List (List ℤ)) (x : Float) (n : ℕ) (r : Frame)
    (gs : List (List ℕ)) (ks : List (List ℤ)) : Type 0 where
  pub number : n ≡ frame_number x
  pub frame : r ≡ frame_out (strings_of hs ls) x
  pub states : (j : ℕ) → j ≤ 5 → strings_of gs ks j ≡ frame_leaves (strings_of hs ls) x j
  pub voices : Voices gs ks
