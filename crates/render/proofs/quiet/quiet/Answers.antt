-- `render::quiet::quiet` meets its contract: by what waits, the loop that fits.
-- Assumes nothing.
use mathlib.Core.Path.{◌≡◌, sym, ap, subst, ◌∙◌}
use Prim.Native.Nat.{ℕ, ◌≤◌}
use native.Mathlib.Omega.{arith}
use lib.ListN.{length, take}
use lib.Seq.{length-take-le}
use Rattle.line.specs.Ring.{Apart}
use Rattle.voice.specs.declared.Filter.{Filter}
use Rattle.voice.specs.declared.Kind.{Kind}
use Rattle.voice.specs.declared.Waiting.{Waiting}
use Rattle.voice.specs.declared.Waiting.TheVariants.{Prepared}
use Rattle.voice.specs.declared.Head.{Head}
use Rattle.voice.specs.Struct.{kind_of, state_of}
use Rattle.voice.specs.Valid.{Preparing, Waiting-valid}
use Rattle.loops.specs.Carried.{kind_in}
use Rattle.loops.specs.Fed.{fed_of}
use Rattle.loops.specs.Rendered.{Went}
use Rattle.loops.proofs.Fed.{length-fed}
use Rattle.loops.proofs.Rendered.{begun}
use Rattle.render.proofs.Joined.{fed-quiet, fed-first}
use Rattle.render.proofs.quiet.quiet.Goals as goal

-- fewer samples come no nearer to the ring's end
fewer : (at k n m : ℕ) → m ≤ n → Apart at k n → Apart at k m
fewer at k n m h a = omega (arith, a)

pub returns-then-h-ne0 : goal.returns-then-h-ne0
returns-then-h-ne0 c =
    let n = c.none in
    let s = c.requires in
    let a = c.args in
    let still : Went a.fed a.buffer.now a.h a.line.now a.buffer.now a.h a.line.now 0 =
    (begun (fed_of a.fed 0 a.buffer.now) (state_of a.h a.line.now) s.1, s.0) in
    record {
      went =
          subst (λ (k : Head). Went a.fed a.buffer.now a.h a.line.now a.buffer.now k a.line.now
          n.result.ran.done) (sym n.ensures.0)
          (subst (λ (i : ℕ). Went a.fed a.buffer.now a.h a.line.now a.buffer.now a.h
          a.line.now i) (sym n.ensures.1) still);
      done_bound = omega (arith, n.ensures.1, s.0.fit.at);
    }

-- with nothing waiting: as many samples as there are until the ring ends
module _ (c : goal.After-while_idle-arg-in-Idle-1) where
  first : length (take c.room-n.result c.args.buffer.now) ≡ c.room-n.result
  first = length-take-le c.room-n.result c.args.buffer.now c.room-n.ensures.0

pub slice_bounds-while_idle-end-in-Idle : goal.slice_bounds-while_idle-end-in-Idle
slice_bounds-while_idle-end-in-Idle c = sym (first c)

pub while_idle-requires : goal.while_idle-requires
while_idle-requires c =
    let r = c.room-n in
    let s = c.requires in
    let a = c.args in
    let k = fewer a.h.at a.h.filter.tuning.length r.result
    (length (take r.result a.buffer.now)) (omega (arith, first c)) r.ensures.1 in
    record {
      valid = (s.0, fed-quiet a.fed r.result a.buffer.now s.1);
      waiting_value = (c.in-Idle.is, c.if-h-ne0.false, k);
    }

-- where a change waits
waits : (h : Head) (i : Kind) (e : Filter) (t : ℕ) → h.waiting ≡ Prepared i e t → Waiting-valid h.advance h.waiting
    → Preparing h.advance i e t
waits h i e t q v = subst (λ (w : Waiting). Waiting-valid h.advance w) q v

pub room-m-requires : goal.room-m-requires
room-m-requires c =
    let p = c.in-Prepared in
    let f = c.requires.0.fit in
    let t = (waits c.args.h p.kind p.e p.taken p.is f.waiting).tuned in
    (f.at, t.short, omega (arith, t.long))

pub overflow_sub-h : goal.overflow_sub-h
overflow_sub-h c =
    let p = c.in-Prepared in
    omega (arith, (waits c.args.h p.kind p.e p.taken p.is c.requires.0.fit.waiting).counted)

pub slice_bounds-while_waiting-end : goal.slice_bounds-while_waiting-end
slice_bounds-while_waiting-end c = omega (arith, c.reach-k.ensures.0, c.room-m.ensures.0, c.room-n.ensures.0)

-- as many samples as a change waits for, and the buffer has
module _ (c : goal.After-while_waiting-arg-in-Prepared-1) where
  abbrev n : ℕ
  n = c.reach-k.result

  within : n ≤ length c.args.buffer.now
  within = omega (arith, c.reach-k.ensures.0, c.room-m.ensures.0, c.room-n.ensures.0)

  front : length (take n c.args.buffer.now) ≡ n
  front = length-take-le n c.args.buffer.now within

pub slice_bounds-while_waiting-end-in-Prepared : goal.slice_bounds-while_waiting-end-in-Prepared
slice_bounds-while_waiting-end-in-Prepared c = sym (front c)

pub while_waiting-requires : goal.while_waiting-requires
while_waiting-requires c =
    let r = c.reach-k.ensures in
    let p = c.in-Prepared in
    let s = c.requires in
    let a = c.args in
    let h = a.h in
    let w = waits h p.kind p.e p.taken p.is s.0.fit.waiting in
    let i = ap kind_in p.is in
    let l = front c in
    let m = c.room-m.ensures in
    let k = length (take (n c) a.buffer.now) in
    let near = fewer h.at h.filter.tuning.length c.room-n.result k (omega (arith, l, r.0, m.0))
    c.room-n.ensures.1 in
    let away = fewer h.at p.e.tuning.length c.room-m.result k (omega (arith, l, r.0)) m.1 in
    record {
      valid = (
        s.0,
        fed-quiet a.fed (n c) a.buffer.now s.1,
        λ j. omega (arith, l, r.1 (ap kind_of (sym i) ∙ j), w.counted),
      );
      waiting_value = (
        p.is ∙ ap (λ (i : Kind). Prepared i p.e p.taken) (sym i),
        c.if-h-ne0.false,
        near,
        away,
      );
    }

pub returns-in-Idle : goal.returns-in-Idle
returns-in-Idle c =
    let k = c.before.before in
    let r = c.room-n in
    let a = c.args in
    let b = take r.result a.buffer.now in
    let o = c.while_idle in
    record {
      went = (fed-first a.fed r.result a.buffer.now o.new.buffer c.requires.1 o.ensures.0, o.ensures.1);
      done_bound = omega (arith, o.ensures.0.within, length-fed a.fed 0 b, first k, r.ensures.1.0);
    }

pub returns-in-Prepared : goal.returns-in-Prepared
returns-in-Prepared c =
    let k = c.before.before in
    let a = c.args in
    let m = n k in
    let o = c.while_waiting in
    record {
      went = (fed-first a.fed m a.buffer.now o.new.buffer c.requires.1 o.ensures.0, o.ensures.1);
      done_bound = omega (
        arith,
        o.ensures.0.within,
        length-fed a.fed 0 (take m a.buffer.now),
        front k,
        c.reach-k.ensures.0,
        c.room-m.ensures.1.0,
      );
    }
