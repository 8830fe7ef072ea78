-- `frames::sides` meets its contract: strings 0 to 2, then 3 to 5, and what both leave as floats.
use mathlib.Core.Path.{◌≡◌, ap₂, ◌∙◌}
use Prim.Native.Nat.{◌≤◌}
use native.Mathlib.Omega.{arith}
use lib.IntN.{ℤ, nat_abs}
use mir.Syntax.{w32, w64}
use mir.Val.{SFits, to_z, of_z}
use mir.Facts.{to_z-of_z}
use Rattle.integer.specs.Rounding.{M}
use Rattle.integer.proofs.View.{abs_fits}
use Rattle.integer.proofs.Rounding.{clip_abs}
use Rattle.strings.specs.Rows.{strings_of}
use Rattle.host.specs.Frames.{frame_of}
use Rattle.frames.proofs.Strings.{right_is, six_are}
use Rattle.frames.proofs.Frames as frames
use Rattle.frames.proofs.sides.Goals as goal
use Rattle.frames.proofs.sides.Lts as lts
use Rattle.frames.proofs.sides.Reads as reads
use Rattle.frames.proofs.sides.Tie as tie

pub side-a-requires : goal.side-a-requires
side-a-requires c = (c.requires.0, omega arith, c.requires.1)

pub side-b-requires : goal.side-b-requires
side-b-requires c =
    (c.side-a.ensures.voices, omega arith, c.requires.1)

-- ---- the two sides, and that they are samples
module _ (c : (lts.After-side2 tie.the-claims reads.Pre reads.Post)) where
  abbrev a : ℤ
  a = c.side-a.result.n

  abbrev b : ℤ
  b = c.side-b.result.n

  small-a : nat_abs a ≤ M
  small-a = rw c.side-a.ensures.value (clip_abs _)

  small_b : nat_abs b ≤ M
  small_b = rw c.side-b.ensures.value (clip_abs _)

  fits-a : SFits w32 a
  fits-a = abs_fits w32 a (omega (arith, small-a))

  fits-b : SFits w32 b
  fits-b = abs_fits w32 b (omega (arith, small_b))

module _ (c : goal.After-struct_told-1) where
  read_a : to_z w64 (of_z w64 (a c.before.before)) ≡ a c.before.before
  read_a = to_z-of_z {w = w64} (record { sfits = c.struct_told-1.given.0.1 })

pub overflow_cast-a : goal.overflow_cast-a
overflow_cast-a c = rw (read_a c) (fits-a c.before.before)

module _ (c : goal.After-struct_told-2-1) where
  read-b : to_z w64 (of_z w64 (b c.before.before.before.before)) ≡ b c.before.before.before.before
  read-b = to_z-of_z {w = w64} (record { sfits = c.struct_told-2-1.given.0.1 })

pub overflow_cast-b : goal.overflow_cast-b
overflow_cast-b c = rw (read-b c) (fits-b c.before.before.before.before)

pub frame_of-requires : goal.frame_of-requires
frame_of-requires c =
    rw (read_a c.before.before, read-b c, to_z-of_z (fits-a c.before.before.before.before), to_z-of_z (fits-b c.before.before.before.before))
    (small-a c.before.before.before.before, small_b c.before.before.before.before)

pub returns : goal.returns
returns c =
    let i = c.before in
    let t = i.before.before.before.before in
    let p = t.before.before.before in
    let s = p.args in
    let f = p.side-a.ensures in
    let g = t.side-b.ensures in
    let S = strings_of s.heads.now s.lines.now in
    let e = rw (read_a i.before.before, read-b i, to_z-of_z (fits-a t), to_z-of_z (fits-b t)) at c.frame_of.ensures in
    record {
      frame = e ∙ ap₂ frame_of (f.value ∙ frames.left_is S) (right_is s.x.n f g ∙ frames.right_is S);
      states = six_are s.x.n f g;
      voices = g.voices;
    }
