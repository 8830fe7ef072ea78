-- A frame of crate host by steps of the six strings: the block of one sample that each takes is one step.
use mathlib.Core.Path.{◌≡◌, refl, sym, ap}
use mathlib.Core.List.{[], ◌∷◌}
use Prim.Native.Nat.{ℕ, ◌≤◌}
use native.Mathlib.Omega.{arith}
use borrow.Author.Tests.{eq-eqb}
use lib.IntN.{ℤ, pos, nat_abs, ◌+ℤ◌}
use lib.Ieee.{Float}
use Rattle.integer.specs.Rounding.{M, clip}
use Rattle.integer.proofs.View.{Zs, +v}
use Rattle.rule.specs.Calls.{block, done, number}
use Rattle.rule.specs.State.{State, step, sounds, call}
use Rattle.voice.proofs.Called.{call-accepted}
use Rattle.block.proofs.Blocks.{plays}
use Rattle.instrument.specs.Strings.{Strings, play}
use Rattle.floats.specs.Sample.{enters}
use Rattle.floats.proofs.Returns.{enters-small}
use Rattle.host.specs.Frames.{frame_number, frame_leaves, left_side, right_side, frame_of, frame_out}
use Rattle.frames.specs.Steps.{side}

-- ---- a block of one sample
module _ (v : State) (x : ℤ) (h : nat_abs x ≤ M) where
  one_number : number v.voice (block (x ∷ []) 1) ≡ 0
  one_number = sym (plays v.voice (x ∷ []) 1 refl (omega arith))

  one-call : call v (block (x ∷ []) 1) ≡ step v x
  unfolding done
  one-call = call-accepted v (block (x ∷ []) 1) one_number

-- ---- an accepted frame
module _ (s : Strings) (x : Float) (e : frame_number x ≡ 0) where
  pub leaves-steps : (j : ℕ) → frame_leaves s x j ≡ step (s j) (enters x).n
  unfolding frame_leaves play
  leaves-steps j = rw (eq-eqb (frame_number x) 0 e) (one-call (s j) (enters x).n (enters-small x))

  pub frame_sides : frame_out s x ≡ frame_of (left_side s) (right_side s)
  unfolding frame_out
  frame_sides = rw (eq-eqb (frame_number x) 0 e)

-- ---- the sides
from_zero : (a b c : ℤ) → clip ((a +ℤ b) +ℤ c) ≡ clip (((pos 0 +ℤ a) +ℤ b) +ℤ c)
from_zero a b c =
    let z : a ≡ pos 0 +ℤ a = omega (Zs, +v (pos 0) a) in
    ap (λ (y : ℤ). clip ((y +ℤ b) +ℤ c)) z

pub left_is : (s : Strings) → side s 0 ≡ left_side s
left_is s = from_zero (sounds (s 0)) (sounds (s 1)) (sounds (s 2))

pub right_is : (s : Strings) → side s 3 ≡ right_side s
right_is s = from_zero (sounds (s 3)) (sounds (s 4)) (sounds (s 5))
