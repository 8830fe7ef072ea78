-- One frame: `Frames`.
use mathlib.Core.Path.{◌≡◌, refl, sym, ap, ◌∙◌}
use mathlib.Core.Bool.{Bool, true, false, cond}
use mathlib.Core.List.{List, [], ◌∷◌}
use Prim.Native.Nat.{ℕ, suc, ◌+◌, ◌≤◌}
use lib.IntN.{ℤ, pos, nat_abs}
use lib.Ieee.{Float}
use lib.ListN.{get_or}
use borrow.Author.Tests.{eq-eqb, ne_eqb}
use Rattle.integer.specs.Rounding.{M, clip}
use Rattle.integer.proofs.Rounding.{clip_abs}
use Rattle.allpass.specs.Bounds.{none, more}
use Rattle.rule.specs.State.{sounds}
use Rattle.floats.specs.declared.frame.Frame.{Frame}
use Rattle.floats.specs.Sample.{enters}
use Rattle.floats.proofs.Theorems as Leaves
use Rattle.floats.proofs.Returns.{samples}
use Rattle.instrument.specs.Strings.{Strings, mix, number, play, total}
use Rattle.instrument.specs.Mix.{put_in}
use Rattle.instrument.proofs.Returns.{returns}
use Rattle.instrument.proofs.Sums.{total-same, put-block}
use Rattle.host.specs.Frames.{frame_number, one_sample, frame_leaves, left_side, right_side, frame_of}
use Rattle.host.specs.Frames.{silent_frame, frame_out}
use Rattle.host.specs.Theorems.{Accepted, Refused, Frames}

-- ---- an accepted frame
module _ (s : Strings) (x : Float) (e : frame_number x ≡ 0) where
  small : nat_abs (enters x).n ≤ M
  small =
      let g = (samples x).given e in
      rw g.clipped (clip_abs g.A)

  pub accepts : number s (one_sample x) ≡ 0
  accepts = (returns.mixing s ((enters x).n ∷ []) 1).accepted.1 (refl, more small none)

  pub put_one : (k : ℕ) → put_in s ((enters x).n ∷ []) 1 0 k ≡ sounds (s k)
  unfolding number
  put_one k = ap (λ (ys : List ℤ). get_or ys 0 (pos 0)) (put-block (s k) ((enters x).n ∷ []) 1 accepts)

  frame_is : frame_out s x ≡ frame_of (left_side s) (right_side s)
  unfolding frame_out
  frame_is =
      ap (λ (b : Bool). cond b (frame_of (left_side s) (right_side s)) silent_frame) (eq-eqb (frame_number x) 0 e)

  leaves-mix : (j : ℕ) → frame_leaves s x j ≡ play s (one_sample x) j
  unfolding frame_leaves
  leaves-mix j = ap (λ (b : Bool). cond b (play s (one_sample x) j) (s j)) (eq-eqb (frame_number x) 0 e)

  pub left_is : left_side s ≡ clip (total (put_in s ((enters x).n ∷ []) 1 0) 3)
  left_is =
      ap clip (total-same (λ k. sounds (s k)) (put_in s ((enters x).n ∷ []) 1 0) 3 (λ k. sym (put_one k)))

  pub right_is : right_side s ≡ clip (total (λ k. put_in s ((enters x).n ∷ []) 1 0 (3 + k)) 3)
  right_is =
      ap clip
      (total-same (λ k. sounds (s (3 + k))) (λ k. put_in s ((enters x).n ∷ []) 1 0 (3 + k)) 3
      (λ k. sym (put_one (3 + k))))

  pub accepted : Accepted s x
  accepted = record {
    sample = (samples x).given e;
    mixes = accepts;
    states = leaves-mix;
    left = rw (← left_is) (ap (λ (f : Frame). f.left) frame_is);
    right = rw (← right_is) (ap (λ (f : Frame). f.right) frame_is);
    exact_left = Leaves.exact (left_side s) (clip_abs (total (λ k. sounds (s k)) 3));
    exact_right = Leaves.exact (right_side s) (clip_abs (total (λ k. sounds (s (3 + k))) 3));
  }

-- ---- a refused one
pub refused : (s : Strings) (x : Float) → (frame_number x ≡ 0 → ⊥) → Refused s x
unfolding frame_leaves frame_out
refused s x f = record {
  states = λ j. ap (λ (b : Bool). cond b (play s (one_sample x) j) (s j)) (ne_eqb (frame_number x) 0 f);
  frame =
      ap (λ (b : Bool). cond b (frame_of (left_side s) (right_side s)) silent_frame) (ne_eqb (frame_number x) 0 f);
}

pub frames_hold : Frames
frames_hold = record {
  returns = λ x.
      let r = samples x in
      record { not_finite = r.not_finite; outside = r.outside; accepted = r.accepted };
  accepted = accepted;
  refused = refused;
}
