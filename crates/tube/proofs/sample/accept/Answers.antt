-- `tube::sample::accept` meets its contract: the parts are those of the rule.
use mathlib.Core.Path.{◌≡◌, ◌∙◌}
use mathlib.Core.List.{[], ◌∷◌}
use Prim.Native.Nat.{◌≤◌}
use native.Mathlib.Omega.{arith}
use lib.IntN.{ℤ, nat_abs}
use mir.Syntax.{w32, w64}
use mir.Val.{SFits, to_z, of_z}
use mir.Facts.{to_z-of_z}
use Rattle.integer.specs.Rounding.{M}
use Rattle.integer.proofs.View.{abs_fits}
use Rattle.integer.proofs.Rounding.{clip_abs}
use Rattle.allpass.proofs.Bounds.{out_within}
use Rattle.junction.specs.Junction.{filter_output, to_right, to_left}
use Rattle.tube.specs.Struct.{pair_of, junction_of}
use Rattle.tube.proofs.Tuned.{feeds}
use Rattle.tube.proofs.Junctions.{take-valid, take-is, step_is}
use Rattle.tube.proofs.sample.accept.Goals as goal

-- a sample, as the machine holds it
wide : (z : ℤ) → nat_abs z ≤ M → to_z w64 (of_z w64 z) ≡ z
wide z h = to_z-of_z (abs_fits w64 z (omega (arith, h)))

narrow : (z : ℤ) → nat_abs z ≤ M → SFits w32 z
narrow z h = abs_fits w32 z (omega (arith, h))

pub pass_both-p-requires : goal.pass_both-p-requires
pass_both-p-requires c = feeds c.requires.0.filters c.requires.1

pub to_right-right-requires : goal.to_right-right-requires
to_right-right-requires c =
    let v = c.requires.0 in
    let f = c.args.j.filters.b in (
      v.r,
      v.last.a,
      rw c.pass_both-p.ensures.1 (out_within (f.a1 ∷ []) (f.v1 ∷ []) c.args.x.b.n),
    )

pub to_left-left-requires : goal.to_left-left-requires
to_left-left-requires c =
    let v = c.requires.0 in
    let f = c.args.j.filters.a in (
      v.r,
      rw c.pass_both-p.ensures.0 (out_within (f.a1 ∷ []) (f.v1 ∷ []) c.args.x.a.n),
      v.last.b,
    )

pub overflow_cast-result : goal.overflow_cast-result
overflow_cast-result c =
    let z = c.to_right-right.result.n in
    let h : nat_abs z ≤ M = rw c.to_right-right.ensures (clip_abs _) in
    rw (wide z h) (narrow z h)

pub overflow_cast-result-2 : goal.overflow_cast-result-2
overflow_cast-result-2 c =
    let z = c.to_left-left.result.n in
    let h : nat_abs z ≤ M = rw c.to_left-left.ensures (clip_abs _) in
    rw (wide z h) (narrow z h)

pub settle-requires : goal.settle-requires
settle-requires c = rw c.pass_both-p.ensures.2 (take-valid c.requires.0 c.requires.1, c.feed-w.ensures.1)

pub returns : goal.returns
unfolding to_right to_left filter_output
returns c =
    let j = c.args.j in
    let x = c.args.x in
    let v = c.requires.0 in
    let f = c.pass_both-p.ensures in
    let y = c.to_right-right.result.n in
    let z = c.to_left-left.result.n in
    let k : nat_abs y ≤ M = rw c.to_right-right.ensures (clip_abs _) in
    let l : nat_abs z ≤ M = rw c.to_left-left.ensures (clip_abs _) in
    let n = rw (f.2, take-is j x v, c.feed-w.ensures.0) at c.settle.ensures.0 in (
      rw (wide y k, to_z-of_z (narrow y k), ← v.filters.b.coefficient, ← f.1) c.to_right-right.ensures,
      rw (wide z l, to_z-of_z (narrow z l), ← v.filters.a.coefficient, ← f.0) c.to_left-left.ensures,
      n ∙ step_is (junction_of j) (pair_of x),
      c.settle.ensures.1,
    )
