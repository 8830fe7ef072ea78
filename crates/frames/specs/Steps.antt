-- What the steps of a frame leave: a row, a string, three strings and both sides.
use Rattle.std.specs.Prelude.{◌≡◌, cond, ◌||◌, List, ℕ, ◌+◌, ◌≤◌, ltb, ℤ, nat_abs, ◌+ℤ◌}
use Rattle.integer.specs.Rounding.{M, clip}
use Rattle.rule.specs.State.{step, sounds}
use Rattle.voice.specs.Struct.{state_of}
use Rattle.voice.specs.Valid.{Valid}
use Rattle.packed.specs.Words.{head_of}
use Rattle.instrument.specs.Strings.{Strings}
use Rattle.strings.specs.Rows.{strings_of, Voices}
use Rattle.floats.specs.declared.frame.Frame.{Frame}
use Rattle.host.specs.Frames.{left_side, right_side, frame_of}

-- the voice of a row took x and put out y
pub record Row (ws : List ℕ) (l : List ℤ) (x y : ℤ) (us : List ℕ) (m : List ℤ) : Type 0 where
  pub value : y ≡ sounds (state_of (head_of ws) l)
  pub small : nat_abs y ≤ M
  pub state : state_of (head_of us) m ≡ step (state_of (head_of ws) l) x
  pub valid : Valid (head_of us) m

-- string k took x and put out y; the others stayed
pub record OneString (hs : List (List ℕ)) (ls : List (List ℤ)) (k : ℕ) (x y : ℤ) (gs : List (List ℕ))
    (ks : List (List ℤ)) : Type 0 where
  pub value : y ≡ sounds (strings_of hs ls k)
  pub small : nat_abs y ≤ M
  pub own : strings_of gs ks k ≡ step (strings_of hs ls k) x
  pub others : (j : ℕ) → (j ≡ k → ⊥) → strings_of gs ks j ≡ strings_of hs ls j
  pub voices : Voices gs ks

-- strings k to k + 2 after x
abbrev pub three : Strings → ℕ → ℤ → Strings
three s k x j = cond (ltb j k || ltb (k + 2) j) (s j) (step (s j) x)

-- the clipped sum of what they put out
abbrev pub side : Strings → ℕ → ℤ
side s k = clip ((sounds (s k) +ℤ sounds (s (k + 1))) +ℤ sounds (s (k + 2)))

pub record Side (hs : List (List ℕ)) (ls : List (List ℤ)) (k : ℕ) (x y : ℤ) (gs : List (List ℕ))
    (ks : List (List ℤ)) : Type 0 where
  pub value : y ≡ side (strings_of hs ls) k
  pub states : (j : ℕ) → strings_of gs ks j ≡ three (strings_of hs ls) k x j
  pub voices : Voices gs ks

pub record Sides (hs : List (List ℕ)) (ls : List (List ℤ)) (x : ℤ) (r : Frame) (gs : List (List ℕ))
    (ks : List (List ℤ)) : Type 0 where
  pub frame : r ≡ frame_of (left_side (strings_of hs ls)) (right_side (strings_of hs ls))
  pub states : (j : ℕ) → j ≤ 5 → strings_of gs ks j ≡ step (strings_of hs ls j) x
  pub voices : Voices gs ks
