-- `loops::run::run` meets its contract: the invariant is what the loop leaves, with the products it carries on.
-- What waits, if anything, is in proofs/Leading.antt and proofs/Ahead.antt. Assumes nothing.
use mathlib.Core.Path.{◌≡◌, refl, sym, ap, subst, ◌∙◌}
use Prim.Native.Nat.{ℕ, ◌+◌, ◌-◌, ◌%◌, ◌≤◌, ◌<◌}
use native.Mathlib.Omega.{arith}
use borrow.Author.Tests.{leb-true, not-false}
use lib.Dec.{leb}
use lib.IntN.{ℤ, pos, nat_abs, ◌+ℤ◌, ◌*ℤ◌}
use lib.ListN.{length}
use Rattle.integer.specs.Rounding.{M, clip}
use Rattle.integer.specs.Cut.{Q}
use Rattle.integer.proofs.Rounding.{clip_abs}
use Rattle.thiran.specs.Answers.{taps}
use Rattle.allpass.specs.declared.State.{State}
use Rattle.allpass.specs.Allpass.{next, out}
use Rattle.allpass.specs.Stored.{stored, held, Fed}
use Rattle.voice.specs.declared.Filter.{Filter}
use Rattle.voice.specs.declared.Head.{Head}
use Rattle.voice.specs.Struct.{filter_of, state_of}
use Rattle.voice.specs.Valid.{Valid}
use Rattle.step.proofs.Filters.{taps_of, tuned-fed}
use Rattle.loops.specs.declared.Led.{Led}
use Rattle.loops.specs.Carried.{anew_of, ran_of, after_of}
use Rattle.loops.specs.Rendered.{Went}
use Rattle.loops.specs.Fed.{fed_of, input_of}
use Rattle.loops.proofs.Fed.{length-fed, input-fed, set-fed}
use Rattle.loops.proofs.Passes.{Passed, started, reads, more}
use Rattle.loops.proofs.Carrying.{keeps, kept_self}
use Rattle.loops.proofs.Ahead.{feeds, moves}
use Rattle.loops.proofs.Leading.{keeps_ahead, rests, begins, on_of, still, alone, goes}
use Rattle.loops.proofs.Taking.{from_on, taken-small, taken_circulates}
use Rattle.loops.proofs.run.run.Goals as goal
use Rattle.loops.proofs.run.run.Lts as lts
use Rattle.loops.proofs.run.run.Reads as reads
use Rattle.loops.proofs.run.run.Tie as tie

pub kept-v-requires : goal.kept-v-requires
kept-v-requires c = keeps c.args.h.filter c.requires.valid.0.fit.filter c.requires.order_value.0

-- the state of the filter is all that is kept of it
is_state : (c : lts.After-kept tie.the-claims reads.Pre reads.Post goal.the-invariant-loop-i goal.the-decreases-loop-i tie.handed_clauses) → c.kept-v.result ≡ c.args.h.filter.state
is_state c = kept_self c.args.h.filter c.requires.valid.0.fit.filter c.requires.order_value.0 c.kept-v.ensures

pub of_state-k-requires : goal.of_state-k-requires
of_state-k-requires c =
    let f = c.args.h.filter in
    rw c.requires.order_value.0
    (subst (λ (v : State). Fed f.tuning.order f.coefficients v (pos 0)) (sym (is_state c.before))
    (tuned-fed c.requires.valid.0.fit.filter {x = pos 0} (omega arith)))

pub kept-u-requires : goal.kept-u-requires
kept-u-requires c =
    let a = c.args in
    keeps_ahead a.h.waiting a.coming (length a.buffer.now) a.h.advance a.e c.requires.order_value.2
    c.requires.valid.0.fit.waiting

pub loop-i-init : goal.loop-i-init
loop-i-init c =
    let a = c.args in
    let h = a.h in
    let v = c.requires.valid in
    let o = c.requires.order_value in
    let fit = v.0.fit in
    let u = c.kept-u.result in
    let n = length a.buffer.now in
    let r = rests h.waiting a.coming n h.advance a.e u o.2 fit.waiting c.kept-u.ensures in (
      started (begins h.waiting h c.kept-v.result u refl (is_state c.before.before.before.before.before) r fit.waiting fit.at)
          v.1 v.0,
      c.of_state-k.ensures,
    )

-- where a pass begins, or the loop ends
module _ (c : lts.At-loop tie.the-claims reads.Pre reads.Post goal.the-invariant-loop-i goal.the-decreases-loop-i tie.handed_clauses) where
  abbrev led : Led
  led = record { ran = record { state = c.loop-i.v; last = c.loop-i.last; done = c.loop-i.i }; next = c.loop-i.u }

-- a pass of the loop: a change still waits
module _ (c : lts.In-loop tie.the-claims reads.Pre reads.Post goal.the-invariant-loop-i goal.the-decreases-loop-i tie.handed_clauses) where
  abbrev h : Head
  h = c.args.h

  -- the filter, and the place of the next sample
  abbrev f : Filter
  f = anew_of h.filter.tuning.order h.filter c.loop-i.v

  abbrev at : ℕ
  at = (h.at + c.loop-i.i) % 2112

  abbrev head : Head
  head = on_of h.waiting h (led c.before)

  more_left : c.loop-i.i < length c.args.buffer.now
  more_left = c.loop-i-test.true

  so_far : Passed (fed_of c.args.fed 0 c.args.buffer.now) (state_of h c.args.line.now)
      (fed_of c.args.fed c.loop-i.i c.loop-i.buffer) head c.loop-i.line c.loop-i.i
  so_far =
      let l = c.loop-i in
      let a = c.args in
      let b = a.buffer.now in
      subst
      (λ (k : Head). Passed (fed_of a.fed 0 b) (state_of h a.line.now) (fed_of a.fed l.i l.buffer) k
      l.line l.i)
      (still h.waiting h (led c.before) a.coming (length b) a.e c.requires.order_value.2 more_left)
      l.invariant.0

  valid : Valid (ran_of h (led c.before).ran) c.loop-i.line
  valid = alone h.waiting h (led c.before) so_far.1

  left : c.loop-i.i < length (fed_of c.args.fed c.loop-i.i c.loop-i.buffer)
  left =
      let l = c.loop-i in
      omega (arith, length-fed c.args.fed l.i l.buffer)

  here : h.at + c.loop-i.i ≡ at
  here = omega (arith, more_left, c.requires.from_value.2.0)

  inside : at < 2112
  inside = valid.fit.at

  place : c.args.from + c.loop-i.i ≡ (at + 2112 - f.tuning.length) % 2112
  place =
      let s = c.requires.from_value in
      let t = valid.fit.filter in
      from_on h.at f.tuning.length c.args.from (length c.args.buffer.now)
      c.loop-i.i s.2.0 s.2.1 more_left s.0 t.short t.long

  far-inside : c.args.far + c.loop-i.i < 2112
  far-inside = omega (arith, c.requires.from_value.1, c.requires.from_value.3.1, more_left)

  on : (h.at + (c.loop-i.i + 1)) % 2112 ≡ (at + 1) % 2112
  on = omega (arith, here)

pub overflow_add-from : goal.overflow_add-from
overflow_add-from c =
    let l = c.before.before in
    omega (arith, place l, more_left l)

pub read-x-requires : goal.read-x-requires
read-x-requires c =
    let l = c.before.before in
    omega (arith, place l)

pub overflow_add-far : goal.overflow_add-far
overflow_add-far c = omega (arith, far-inside c.before.before.before.before.before)

pub read-g-requires : goal.read-g-requires
read-g-requires c =
    omega (arith, far-inside c.before.before.before.before.before)

-- once its samples are read
module _ (c : lts.After-read2 tie.the-claims reads.Pre reads.Post goal.the-invariant-loop-i goal.the-decreases-loop-i tie.handed_clauses) where
  abbrev within : lts.In-loop tie.the-claims reads.Pre reads.Post goal.the-invariant-loop-i goal.the-decreases-loop-i tie.handed_clauses
  within = c.before.before.before.before.before.before

  long : length c.loop-i.line ≡ 2112
  long = omega arith

  small : nat_abs c.read-x.result.n ≤ M
  small =
      taken-small c.loop-i.line (at within) long (inside within) (valid within).fit.filter (place within)
      c.read-x.ensures (valid within).line

pub carry-t-requires : goal.carry-t-requires
carry-t-requires c =
    let g = c.before in
    let w = within g in
    let x = c.read-x.result.n in (
      subst (λ (N : ℕ). Fed N (h w).filter.coefficients c.loop-i.v x) (sym c.requires.order_value.0)
          (tuned-fed (valid w).fit.filter (small g)),
      c.loop-i.invariant.1,
    )

pub is_loud-requires : goal.is_loud-requires
is_loud-requires c = c.heard-y.ensures.1

pub returns-then-is_loud : goal.returns-then-is_loud
returns-then-is_loud c = c.loop-i.invariant.0

-- once its output is known to be within the limits
module _ (c : goal.Else-is_loud) where
  abbrev read : lts.After-read2 tie.the-claims reads.Pre reads.Post goal.the-invariant-loop-i goal.the-decreases-loop-i tie.handed_clauses
  read = c.before.before.before.before.before.before

  abbrev around : lts.In-loop tie.the-claims reads.Pre reads.Post goal.the-invariant-loop-i goal.the-decreases-loop-i tie.handed_clauses
  around = within read

  -- the output
  abbrev y : ℤ
  y = c.heard-y.result.n

  y-small : nat_abs y ≤ M
  y-small = leb-true (nat_abs y) M (not-false (leb (nat_abs y) M) (sym c.is_loud.ensures ∙ c.if-is_loud.false))

  out-is : clip y ≡ out (taps_of (f around)) (filter_of (f around)) c.read-x.result.n
  out-is =
      let x = c.read-x.result.n in
      c.heard-y.ensures.0
      ∙ subst
      (λ (N : ℕ). clip c.carry-t.result.y.n
      ≡ out (taps N c.args.h.filter.coefficients) (held N c.loop-i.v) x)
      c.requires.order_value.0
      c.carry-t.ensures.0

  next-is : c.carry-t.result.state ≡ stored (next (taps_of (f around)) (filter_of (f around))
      c.read-x.result.n)
  next-is =
      let x = c.read-x.result.n in
      subst
      (λ (N : ℕ). c.carry-t.result.state
      ≡ stored (next (taps N c.args.h.filter.coefficients) (held N c.loop-i.v) x))
      c.requires.order_value.0
      c.carry-t.ensures.1

  input-small : nat_abs (input_of c.args.fed c.loop-i.buffer c.loop-i.i) ≤ M
  input-small =
      let l = c.loop-i in
      reads (so_far around) (left around) (input-fed c.args.fed l.buffer l.i)

pub newest-s-requires : goal.newest-s-requires
newest-s-requires c =
    let r = around c in
    let v = (valid r).fit in
    record { i_in_bounds = (omega arith, input-small c); loss_bound = (v.loss, y-small c, v.last) }

pub led-n-requires : goal.led-n-requires
led-n-requires c =
    let t = read c.before.before in
    let r = within t in
    let s = c.requires.from_value in
    let a = c.args in
    feeds a.h.waiting a.h (led r.before) a.coming (length a.buffer.now) a.e c.requires.order_value.2
    (so_far r).1 (long t) s.1 s.3 (more_left r) c.read-g.ensures

pub write-requires : goal.write-requires
write-requires c = (omega arith, y-small c.before.before.before.before)

pub overflow_add-h : goal.overflow_add-h
overflow_add-h c =
    let r = around c.before.before.before.before.before.before.before.before in
    omega (arith, here r, inside r)

pub write-requires-in-loop-i : goal.write-requires-in-loop-i
write-requires-in-loop-i c =
    let e = c.before.before.before.before.before.before.before.before in
    let r = around e in
    let l = c.loop-i in
    let a = c.args in
    let x = input_of a.fed l.buffer l.i in
    let u = (x +ℤ pos 0) +ℤ Q (pos a.h.loss *ℤ (y e +ℤ l.last.n)) in (
      omega (arith, here r, inside r),
      subst (λ (z : ℤ). nat_abs z ≤ M) (sym c.newest-s.ensures) (clip_abs u),
    )

pub loop-i-preserved : goal.loop-i-preserved
loop-i-preserved c =
    let k = c.before.before.before.before.before.before.before.before.before.before.before in
    let g = read k in
    let r = around k in
    let l = c.loop-i in
    let s = c.args in
    let p = c.requires.from_value in
    let o = c.requires.order_value in
    let x = input_of s.fed l.buffer l.i in
    let e = c.led-n in
    let t = c.carry-t.ensures in
    let u = e.result in
    let room : l.i < length l.buffer = omega arith in
    let made = taken_circulates l.line (at r) (long g) (inside r) (valid r).fit.filter (place r)
    c.read-x.ensures (small g) (next-is k) (y-small k) (out-is k) s.h.loss l.last.n x
    c.newest-s.ensures (here r) (on r) c.write-in-loop-i.ensures in
    let m = moves s.h.waiting s.h (led r.before) s.coming (length s.buffer.now) s.e u o.2
    (so_far r).1 (long g) p.1 p.3 (more_left r) c.read-g.ensures e.ensures in (
      more (so_far r) (left r) (input-fed s.fed l.buffer l.i)
          (goes s.h.waiting s.h (led r.before) u o.1 made m (so_far r).1)
          (ap (fed_of s.fed (l.i + 1)) c.write.ensures
          ∙ set-fed s.fed l.i l.buffer (y k) room)
          refl,
      t.2,
    )

pub returns : goal.returns
returns c =
    let l = c.loop-i in
    let a = c.args in
    let all : l.i ≡ length l.buffer = omega arith in
    subst
    (λ (n : ℕ). Went a.fed a.buffer.now a.h a.line.now l.buffer
    (after_of a.h (record { ran = record { state = l.v; last = l.last; done = n }; next = l.u })) l.line n)
    all l.invariant.0
