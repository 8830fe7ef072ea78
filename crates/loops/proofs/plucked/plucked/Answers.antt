-- `loops::plucked::plucked` meets its contract: the invariant is what the loop leaves, with the products it
-- carries on. Assumes nothing.
use mathlib.Core.Path.{◌≡◌, refl, sym, ap, subst, ◌∙◌}
use Prim.Native.Nat.{ℕ, ◌+◌, ◌-◌, ◌%◌, ◌≤◌, ◌<◌}
use native.Mathlib.Omega.{arith}
use lib.IntN.{ℤ, pos, nat_abs, ◌+ℤ◌, ◌*ℤ◌}
use lib.ListN.{length}
use Rattle.integer.specs.Rounding.{M, clip}
use Rattle.integer.specs.Cut.{Q}
use Rattle.integer.proofs.Rounding.{clip_abs, clip-kept}
use Rattle.voice.specs.declared.Filter.{Filter}
use Rattle.voice.specs.Valid.{Tuned, Valid}
use Rattle.step.proofs.Filters.{tuned-fed}
use Rattle.loops.specs.Carried.{anew_of, left_of, sung_of}
use Rattle.loops.specs.Fed.{fed_of, input_of}
use Rattle.loops.specs.Rendered.{Went}
use Rattle.loops.proofs.Fed.{length-fed, input-fed, set-fed}
use Rattle.loops.proofs.Passes.{started, reads, more}
use Rattle.loops.proofs.Carrying.{keeps, kept_anew, carried_self, sung_steps}
use Rattle.loops.proofs.Taking.{from_on, taken-small, taken_circulates}
use Rattle.loops.proofs.plucked.plucked.Goals as goal
use Rattle.loops.proofs.plucked.plucked.Lts as lts
use Rattle.loops.proofs.plucked.plucked.Reads as reads
use Rattle.loops.proofs.plucked.plucked.Tie as tie

pub kept-v-requires : goal.kept-v-requires
kept-v-requires c = keeps c.args.h.filter c.requires.valid.0.fit.filter c.requires.order_value.0

pub of_state-k-requires : goal.of_state-k-requires
of_state-k-requires c =
    let t = c.requires.valid.0.fit.filter in
    let e = sym (kept_anew c.args.h.filter t c.requires.order_value.0 c.kept-v.ensures) in
    tuned-fed (subst (λ (f : Filter). Tuned f) e t) {x = pos 0} (omega arith)

pub loop-i-init : goal.loop-i-init
loop-i-init c =
    let h = c.args.h in
    let v = c.requires.valid in
    let o = c.requires.order_value in
    let f = anew_of c.args.order h.filter c.kept-v.result in
    let z : (h.at + 0) % 2112 ≡ h.at = omega (arith, v.0.fit.at) in
    let e = kept_anew h.filter v.0.fit.filter o.0 c.kept-v.ensures in (
      started
          (ap (λ (a : ℕ). left_of h f h.last h.pluck a) z ∙ carried_self h e o.1)
          v.1
          v.0,
      c.of_state-k.ensures,
    )

-- a pass of the loop
module _ (c : lts.In-loop tie.the-claims reads.Pre reads.Post goal.the-invariant-loop-i goal.the-decreases-loop-i tie.handed_clauses) where
  -- the filter, and the place of the next sample
  abbrev f : Filter
  f = anew_of c.args.order c.args.h.filter c.loop-i.v

  abbrev at : ℕ
  at = (c.args.h.at + c.loop-i.i) % 2112

  valid : Valid (left_of c.args.h f c.loop-i.last c.loop-i.p at) c.loop-i.line
  valid = c.loop-i.invariant.0.1

  left : c.loop-i.i < length (fed_of c.args.fed c.loop-i.i c.loop-i.buffer)
  left =
      let l = c.loop-i in
      omega (arith, length-fed c.args.fed l.i l.buffer)

  more_left : c.loop-i.i < length c.args.buffer.now
  more_left = c.loop-i-test.true

  here : c.args.h.at + c.loop-i.i ≡ at
  here = omega (arith, more_left, c.requires.from_value.1.0)

  inside : at < 2112
  inside = valid.fit.at

  place : c.args.from + c.loop-i.i ≡ (at + 2112 - f.tuning.length) % 2112
  place =
      let s = c.requires.from_value in
      let t = valid.fit.filter in
      from_on c.args.h.at f.tuning.length c.args.from (length c.args.buffer.now)
      c.loop-i.i s.1.0 s.1.1 more_left s.0 t.short t.long

  next : (c.args.h.at + (c.loop-i.i + 1)) % 2112 ≡ (at + 1) % 2112
  next = omega (arith, here)

pub overflow_add-from : goal.overflow_add-from
overflow_add-from c =
    let l = c.before.before in
    omega (arith, place l, more_left l)

pub read-x-requires : goal.read-x-requires
read-x-requires c =
    let l = c.before.before in
    omega (arith, place l)

-- once its sample is read
module _ (c : lts.After-read tie.the-claims reads.Pre reads.Post goal.the-invariant-loop-i goal.the-decreases-loop-i tie.handed_clauses) where
  abbrev within : lts.In-loop tie.the-claims reads.Pre reads.Post goal.the-invariant-loop-i goal.the-decreases-loop-i tie.handed_clauses
  within = c.before.before.before

  long : length c.loop-i.line ≡ 2112
  long = omega arith

  small : nat_abs c.read-x.result.n ≤ M
  small =
      taken-small c.loop-i.line (at within) long (inside within) (valid within).fit.filter (place within)
      c.read-x.ensures (valid within).line

pub carry-t-requires : goal.carry-t-requires
carry-t-requires c = (tuned-fed (valid (within c)).fit.filter (small c), c.loop-i.invariant.1)

-- once its output is clipped
module _ (c : lts.After-clip tie.the-claims reads.Pre reads.Post goal.the-invariant-loop-i goal.the-decreases-loop-i tie.handed_clauses) where
  abbrev around : lts.In-loop tie.the-claims reads.Pre reads.Post goal.the-invariant-loop-i goal.the-decreases-loop-i tie.handed_clauses
  around = within c.before.before.before

  y-small : nat_abs c.clip-y.result.n ≤ M
  y-small =
      subst (λ (z : ℤ). nat_abs z ≤ M) (sym c.clip-y.ensures) (clip_abs c.carry-t.result.y.n)

  -- what comes in
  abbrev coming : ℤ
  coming = input_of c.args.fed c.loop-i.buffer c.loop-i.i

  input-small : nat_abs coming ≤ M
  input-small =
      let l = c.loop-i in
      reads l.invariant.0 (left around) (input-fed c.args.fed l.buffer l.i)

pub sound-o-requires : goal.sound-o-requires
sound-o-requires c = (valid (around c)).fit.pluck

pub looped-b-requires : goal.looped-b-requires
looped-b-requires c =
    let k = c.before in
    let v = (valid (around k)).fit in
    (v.loss, y-small k, v.last)

pub input-requires : goal.input-requires
input-requires c = omega arith

pub mixed-s-requires : goal.mixed-s-requires
mixed-s-requires c = (
  subst (λ (z : ℤ). nat_abs z ≤ M) (sym c.input.ensures) (input-small c.before.before.before.before),
  c.sound-o.ensures.small,
  c.looped-b.ensures.1,
)

-- once s(n) is made
module _ (c : lts.After-mixed tie.the-claims reads.Pre reads.Post goal.the-invariant-loop-i goal.the-decreases-loop-i tie.handed_clauses) where
  abbrev heard : lts.After-clip tie.the-claims reads.Pre reads.Post goal.the-invariant-loop-i goal.the-decreases-loop-i tie.handed_clauses
  heard = c.before.before.before.before.before

  abbrev over : lts.In-loop tie.the-claims reads.Pre reads.Post goal.the-invariant-loop-i goal.the-decreases-loop-i tie.handed_clauses
  over = around heard

  is-newest : c.mixed-s.result.n
      ≡ clip ((coming heard +ℤ c.sound-o.result.noise.n)
      +ℤ Q (pos c.args.h.loss *ℤ (c.clip-y.result.n +ℤ c.loop-i.last.n)))
  is-newest =
      let o = c.sound-o.result.noise.n in
      let b = c.looped-b in
      c.mixed-s.ensures
      ∙ ap (λ (x : ℤ). clip ((x +ℤ o) +ℤ b.result.n)) c.input.ensures
      ∙ ap (λ (b : ℤ). clip ((coming heard +ℤ o) +ℤ b)) b.ensures.0

  newest-small : nat_abs c.mixed-s.result.n ≤ M
  newest-small =
      let x = (c.input.result.n +ℤ c.sound-o.result.noise.n) +ℤ c.looped-b.result.n in
      subst (λ (z : ℤ). nat_abs z ≤ M) (sym c.mixed-s.ensures) (clip_abs x)

pub overflow_add-at : goal.overflow_add-at
overflow_add-at c = let r = over c.before in omega (arith, here r, inside r)

pub write-requires : goal.write-requires
write-requires c =
    let m = c.before in
    let r = over m in
    (omega (arith, here r, inside r), newest-small m)

pub write-requires-in-loop-i : goal.write-requires-in-loop-i
write-requires-in-loop-i c = (omega arith, y-small (heard c.before.before.before))

pub loop-i-preserved : goal.loop-i-preserved
loop-i-preserved c =
    let k = c.before.before.before.before.before.before.before.before in
    let e = heard k in
    let g = e.before.before.before in
    let r = over k in
    let l = c.loop-i in
    let s = c.args in
    let h = s.h in
    let y = c.clip-y.result in
    let o = c.carry-t.ensures in
    let room : l.i < length l.buffer = omega arith in
    let made = taken_circulates l.line (at r) (long g) (inside r) (valid r).fit.filter (place r)
    c.read-x.ensures (small g) o.1 (y-small e)
    (clip-kept y.n (y-small e) ∙ c.clip-y.ensures ∙ o.0) h.loss l.last.n (coming e)
    (is-newest k) (here r) (next r) c.write.ensures in (
      more l.invariant.0 (left r) (input-fed s.fed l.buffer l.i)
          (sung_steps h c.sound-o.ensures made (valid r))
          (ap (fed_of s.fed (l.i + 1)) c.write-in-loop-i.ensures
          ∙ set-fed s.fed l.i l.buffer y.n room)
          refl,
      o.2,
    )

pub returns : goal.returns
returns c =
    let l = c.loop-i in
    let s = c.args in
    let h = s.h in
    let all : l.i ≡ length s.buffer.now
    = omega arith in
    subst
    (λ (n : ℕ). Went s.fed s.buffer.now h s.line.now l.buffer
    (sung_of h (record { state = l.v; last = l.last; rest = l.p }) n) l.line n)
    all
    (subst
    (λ (N : ℕ). Went s.fed s.buffer.now h s.line.now l.buffer
    (left_of h (anew_of N h.filter l.v) l.last l.p ((h.at + l.i) % 2112)) l.line l.i)
    c.requires.order_value.0
    l.invariant.0)
