-- `render::through` meets its contract: the invariant is `Rendered`, with a voice that stays valid.
-- Assumes nothing.
use mathlib.Core.Path.{◌≡◌, sym, ap, subst, ◌∙◌}
use mathlib.Core.List.{List, ◌++◌}
use Prim.Native.Nat.{◌+◌, ◌-◌, ◌≤◌, ◌<◌}
use native.Mathlib.Omega.{arith}
use borrow.Author.Rules.{part_to_end}
use borrow.Rule.Slice.PartMut.{put_mid}
use lib.IntN.{ℤ}
use lib.ListN.{length, take, drop, length-drop}
use Rattle.rule.specs.State.{State}
use Rattle.voice.specs.Struct.{state_of}
use Rattle.loops.specs.Fed.{fed_of}
use Rattle.loops.specs.Rendered.{Rendered, Went}
use Rattle.loops.proofs.Fed.{length-fed, as_long, fed-drop, fed_join, all-fed}
use Rattle.loops.proofs.Rendered.{begun, all_after, all-out}
use Rattle.render.proofs.Joined.{back, rendered-then}
use Rattle.render.proofs.through.Goals as goal
use Rattle.render.proofs.through.Lts as lts
use Rattle.render.proofs.through.Reads as reads
use Rattle.render.proofs.through.Tie as tie

pub loop-i-init : goal.loop-i-init
loop-i-init c = (
  begun (fed_of c.args.fed 0 c.args.buffer.now) (state_of c.args.head c.args.line.now) c.requires.1,
  c.requires.0,
)

-- the buffer is as long as it was
same : (c : lts.At-loop tie.the-claims reads.Pre reads.Post goal.the-invariant-loop-i goal.the-decreases-loop-i tie.handed_clauses) → length c.loop-i.buffer ≡ length c.args.buffer.now
same c =
    let l = c.loop-i in
    let s = c.args in
    as_long s.fed l.i l.buffer s.buffer.now l.invariant.0.long

pub offset_bounds-buffer-i : goal.offset_bounds-buffer-i
offset_bounds-buffer-i c =
    let p = c.before.before in
    omega (arith, same p, c.loop-i-test.true, c.well_formed)

pub stretch-p-requires : goal.stretch-p-requires
stretch-p-requires c =
    let l = c.loop-i in
    let q = rw (fed-drop c.args.fed l.i l.buffer) at l.invariant.0.quiet in
    (l.invariant.1, rw (part_to_end l.buffer l.i) q)

-- a pass of the loop, once a stretch is rendered
module _ (c : lts.After-stretch tie.the-claims reads.Pre reads.Post goal.the-invariant-loop-i goal.the-decreases-loop-i tie.handed_clauses) where
  abbrev begins : State
  begins = state_of c.args.head c.args.line.now

  part : Went c.args.fed (drop c.loop-i.i c.loop-i.buffer) c.loop-i.head
      c.loop-i.line c.stretch-p.new.buffer c.stretch-p.result.head c.stretch-p.new.line
      c.stretch-p.result.done
  part = rw (part_to_end c.loop-i.buffer c.loop-i.i) at c.stretch-p.ensures.went

  -- of the buffer with what is still to come in
  part-fed : Rendered (drop c.loop-i.i (fed_of c.args.fed c.loop-i.i c.loop-i.buffer))
      (state_of c.loop-i.head c.loop-i.line)
      (fed_of c.args.fed c.stretch-p.result.done c.stretch-p.new.buffer)
      (state_of c.stretch-p.result.head c.stretch-p.new.line)
      c.stretch-p.result.done
  part-fed = rw (fed-drop c.args.fed c.loop-i.i c.loop-i.buffer) part.0

  within : c.stretch-p.result.done ≤ length c.loop-i.buffer - c.loop-i.i
  within =
      let l = c.loop-i in
      let d = drop l.i l.buffer in
      omega (arith, part.0.within, length-fed c.args.fed 0 d, length-drop l.i l.buffer)

  goes_on : 0 < c.stretch-p.result.done
  goes_on =
      let l = c.loop-i in
      let some = rw (part_to_end l.buffer l.i) at c.stretch-p.ensures.done_nonzero in
      some (omega (arith, length-drop l.i l.buffer, c.loop-i-test.true))

  joined : put_mid c.loop-i.i (length c.loop-i.buffer - c.loop-i.i) c.loop-i.buffer
      c.stretch-p.new.buffer
      ≡ take c.loop-i.i c.loop-i.buffer ++ c.stretch-p.new.buffer
  joined =
      let l = c.loop-i in
      back l.i l.buffer c.stretch-p.new.buffer
      (omega (arith, c.loop-i-test.true))

pub overflow_add-i : goal.overflow_add-i
overflow_add-i c =
    let k = c.before.before.before in
    omega (arith, within k, same k.before.before.before.before, c.loop-i-test.true, c.well_formed)

pub loop-i-smaller : goal.loop-i-smaller
loop-i-smaller c =
    let k = c.before.before.before in
    omega (arith, within k, goes_on k, same k.before.before.before.before, c.loop-i-test.true)

pub loop-i-preserved : goal.loop-i-preserved
loop-i-preserved c =
    let k = c.before.before.before in
    let l = c.loop-i in
    let s = c.args in
    let n = c.stretch-p.result.done in
    let m = c.stretch-p.new.buffer in
    let w = state_of c.stretch-p.result.head c.stretch-p.new.line in
    let o = c.loop-i-test.true in
    let e = fed_join s.fed l.i n l.buffer m (omega (arith, o))
    ∙ ap (fed_of s.fed (l.i + n)) (sym (joined k)) in (
      subst (λ (b : List ℤ). Rendered (fed_of s.fed 0 s.buffer.now) (begins k) b w (l.i + n)) e
          (rendered-then l.invariant.0 (part-fed k)),
      (part k).1,
    )

pub shape_of-buffer : goal.shape_of-buffer
shape_of-buffer c = same c.before

pub returns : goal.returns
returns c =
    let l = c.loop-i in
    let s = c.args in
    let v = state_of s.head s.line.now in
    let u = state_of l.head l.line in
    let xs = fed_of s.fed 0 s.buffer.now in
    let b = fed_of s.fed l.i l.buffer in
    let o = c.loop-i-test.false in
    let n : length b ≤ l.i = omega (arith, o, length-fed s.fed l.i l.buffer) in
    record {
      line_after = all_after xs v b u l.i l.invariant.0 n;
      buffer_after = sym (all-fed s.fed l.i l.buffer o) ∙ all-out xs v b u l.i l.invariant.0 n;
      valid = l.invariant.1;
    }
