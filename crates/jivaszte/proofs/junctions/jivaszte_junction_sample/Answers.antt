-- `jivaszte::junctions::jivaszte_junction_sample` meets its contract: the words are those of what `sample` returns,
-- and so are the two outputs, which fit 32 bits.
use mathlib.Core.Path.{◌≡◌, ap}
use mathlib.Core.Bool.{Bool, true, false, cond}
use Prim.Native.Nat.{◌≤◌}
use native.Mathlib.Omega.{arith}
use borrow.Author.Rules.{rules}
use lib.Dec.{eqb}
use lib.IntN.{ℤ, pos, nat_abs, ◌+ℤ◌, ◌-ℤ◌, ◌*ℤ◌}
use mir.Syntax.{w32}
use mir.Val.{SFits}
use mir.Facts.{to_z-of_z}
use Rattle.integer.specs.Rounding.{M, clip}
use Rattle.integer.specs.Cut.{cut}
use Rattle.integer.proofs.View.{abs_fits}
use Rattle.integer.proofs.Rounding.{clip_abs}
use Rattle.junction.specs.Junction.{from_left, from_right, Two, Junction, filter_output, to_right, to_left}
use Rattle.junction.specs.Calls.{sample, number, Outputs, nothing, put, Answer, answer}
use Rattle.tube.specs.Struct.{junction_of}
use Rattle.jivaszte.proofs.junctions.jivaszte_junction_sample.Goals as goal

abbrev Small : Outputs → Type 0
Small o = (nat_abs o.right ≤ M) × (nat_abs o.left ≤ M)

small : (b : Bool) (y z : ℤ) → Small (cond b (record { right = clip y; left = clip z }) nothing)
small true y z = (clip_abs y, clip_abs z)
small false y z = (omega arith, omega arith)

answer-small : (j : Junction) (x : Two ℤ) → Small (answer j (sample x)).outputs
unfolding answer put to_right to_left
answer-small j x =
    small (eqb (number j (sample x)) 0)
    (cut ((pos 32768 +ℤ j.r) *ℤ j.last.a -ℤ j.r *ℤ filter_output j x from_right) 32768)
    (cut (j.r *ℤ filter_output j x from_left +ℤ (pos 32768 -ℤ j.r) *ℤ j.last.b) 32768)

fits : (z y : ℤ) → z ≡ y → nat_abs y ≤ M → SFits w32 z
fits z y e h = rw e (abs_fits w32 y (omega (arith, h)))

pub sample-requires : goal.sample-requires
sample-requires c = rw c.unpack.ensures c.requires

pub pack-requires : goal.pack-requires
pack-requires c = (rw c.in-Ok.is at c.sample.ensures).1

pub returns-in-Ok : goal.returns-in-Ok
returns-in-Ok c =
    let s = c.in-Ok.s in
    let j = junction_of c.unpack.result in
    let x : Two ℤ = record { a = c.args.a; b = c.args.b } in
    let e = rw (c.in-Ok.is, to_z-of_z c.ranges.a, to_z-of_z c.ranges.b) at c.sample.ensures in
    let w = answer-small j x in
    let o = (answer j (sample x)).outputs in
    let right = fits s.right o.right (ap (λ (k : Answer). k.outputs.right) e.0) w.0 in
    let left = fits s.left o.left (ap (λ (k : Answer). k.outputs.left) e.0) w.1 in
    record {
      junction_after = rw (to_z-of_z right, to_z-of_z left, ← c.unpack.ensures, c.pack.ensures) e.0;
      valid = rw c.pack.ensures e.1;
    }

pub returns-in-Err : goal.returns-in-Err
returns-in-Err c =
    let e = rw (c.in-Err.is, to_z-of_z c.ranges.a, to_z-of_z c.ranges.b) at c.sample.ensures in
    record {
      junction_after = rw (c.number.ensures, ← c.unpack.ensures) e.0;
      valid = c.requires;
    }
