-- What a loop keeps of a voice from sample to sample, beside a change that waits or none: the laws of `gone_of`, by
-- what waits. Assumes nothing.
use mathlib.Core.Path.{◌≡◌, refl, sym, ap, subst, ◌∙◌}
use mathlib.Core.List.{List}
use Prim.Native.Nat.{ℕ, suc, ◌+◌, ◌%◌, ◌≤◌, ◌<◌, min}
use native.Mathlib.Omega.{arith}
use lib.IntN.{ℤ, pos}
use Rattle.integer.specs.declared.Value.{Value}
use Rattle.allpass.specs.declared.State.{State}
use Rattle.allpass.specs.Stored.{held, stored}
use Rattle.line.specs.Ring.{ring}
use Rattle.rule.specs.State.{back}
use Rattle.voice.specs.declared.Filter.{Filter}
use Rattle.voice.specs.declared.Waiting.{Waiting}
use Rattle.voice.specs.declared.Waiting.TheVariants.{Idle, Prepared}
use Rattle.voice.specs.declared.Head.{Head}
use Rattle.voice.specs.Struct.{with_of, settled_of}
use Rattle.voice.specs.Valid.{Tuned, Waiting-valid, Valid}
use Rattle.step.specs.Sample.{Moved, Circulates, Steps}
use Rattle.loops.specs.declared.Led.{Led}
use Rattle.loops.specs.Carried.{anew_of, carried_of, ran_of, gone_of, Leads}
use Rattle.loops.proofs.Carrying.{anew_self, keeps, kept_self, carried_self, quiet-steps, led_steps}
use Rattle.loops.proofs.Carrying.{due-later, due_self, due_as}

-- ---- before the first sample
-- u is the state of the eliminator
abbrev pub Rests : Waiting → State → Type 0
Rests Idle u = Unit {0}
Rests (Prepared k d t) u = u ≡ d.state

-- what is asked where its numbers are kept
pub keeps_ahead : (W : Waiting) (K n a : ℕ) (e : Filter) → Leads W K e n a → Waiting-valid a W → K ≤ 3
keeps_ahead Idle K n a e l w = rw l (omega arith)
keeps_ahead (Prepared k d t) K n a e l w = keeps e (subst (λ (f : Filter). Tuned f) l.1 w.tuned) l.0

pub rests : (W : Waiting) (K n a : ℕ) (e : Filter) (u : State) → Leads W K e n a → Waiting-valid a W
    → u ≡ stored (held K e.state) → Rests W u
rests Idle K n a e u l w q = tt
rests (Prepared k d t) K n a e u l w q =
    kept_self e (subst (λ (f : Filter). Tuned f) l.1 w.tuned) l.0 q
    ∙ ap (λ (f : Filter). f.state) (sym l.1)

pub begins : (W : Waiting) (h : Head) (v u : State) → h.waiting ≡ W → v ≡ h.filter.state → Rests W u
    → Waiting-valid h.advance W → h.at < 2112
    → gone_of W h (record { ran = record { state = v; last = h.last; done = 0 }; next = u }) ≡ h
begins Idle h v u q e r w a =
    let f = anew_of h.filter.tuning.order h.filter v in
    let z : (h.at + 0) % 2112 ≡ h.at = omega arith in
    ap (λ (a : ℕ). carried_of h f h.last a) z
    ∙ carried_self h
    (ap (λ (v : State). anew_of h.filter.tuning.order h.filter v) e ∙ anew_self h.filter refl) q
begins (Prepared k d t) h v u q e r w a =
    let f = anew_of h.filter.tuning.order h.filter v in
    let g = anew_of d.tuning.order d u in
    let z : (h.at + 0) % 2112 ≡ h.at = omega arith in
    let c : min (t + 0) h.advance ≡ t = omega (arith, w.counted) in
    ap (λ (a : ℕ). settled_of (carried_of h f h.last a) k g (min (t + 0) h.advance)) z
    ∙ due_as h h.last h.at k
    (ap (λ (v : State). anew_of h.filter.tuning.order h.filter v) e)
    (ap (λ (v : State). anew_of d.tuning.order d v) r) refl
    ∙ due_self h refl refl q c w.early

-- ---- within the stretch
-- the head while a change still waits
abbrev pub on_of : Waiting → Head → Led → Head
on_of Idle h p = ran_of h p.ran
on_of (Prepared k d t) h p =
    with_of (ran_of h p.ran) (anew_of h.filter.tuning.order h.filter p.ran.state)
    (Prepared k (anew_of d.tuning.order d p.next) (min (t + p.ran.done) h.advance))

pub still : (W : Waiting) (h : Head) (p : Led) (K n : ℕ) (e : Filter) → Leads W K e n h.advance
    → p.ran.done < n → gone_of W h p ≡ on_of W h p
still Idle h p K n e l i = refl
still (Prepared k d t) h p K n e l i =
    due-later (ran_of h p.ran) k (anew_of d.tuning.order d p.next) (min (t + p.ran.done) h.advance)
    (λ a. omega (arith, l.2 a, i))

-- all but what waits
pub alone : (W : Waiting) (h : Head) (p : Led) {l : List ℤ} → Valid (on_of W h p) l → Valid (ran_of h p.ran) l
alone Idle h p v = v
alone (Prepared k d t) h p v = record {
  fit = record {
    filter = v.fit.filter;
    loss = v.fit.loss;
    advance = v.fit.advance;
    last = v.fit.last;
    waiting = tt;
    pluck = v.fit.pluck;
    at = v.fit.at;
  };
  line = v.line;
}

-- the next state of the eliminator is u
abbrev pub Moves : Waiting → Head → Led → List ℤ → State → Type 0
Moves Idle h p l u = Unit {0}
Moves (Prepared k d t) h p l u =
    Moved (anew_of d.tuning.order d p.next)
    (back (ring ((h.at + p.ran.done) % 2112) l) d.tuning.length) (anew_of d.tuning.order d u)

-- one sample
pub goes : (W : Waiting) (h : Head) (p : Led) (u : State) {y : Value} {s : State} {l m : List ℤ} {x : ℤ}
    → h.pluck.left ≡ 0
    → Circulates (anew_of h.filter.tuning.order h.filter p.ran.state) h.loss p.ran.last.n
    ((h.at + p.ran.done) % 2112) l x (pos 0)
    (record {
      y = y;
      filter = anew_of h.filter.tuning.order h.filter s;
      at = (h.at + (p.ran.done + 1)) % 2112;
    })
    m
    → Moves W h p l u → Valid (on_of W h p) l
    → Steps (on_of W h p) l x
    (record {
      y = y;
      head = gone_of W h (record { ran = record { state = s; last = y; done = p.ran.done + 1 }; next = u });
    })
    m
goes Idle h p u z c o v = quiet-steps h z c v
goes (Prepared k d t) h p u {y} {s} {l} {m} {x} z c o v =
    let f = anew_of h.filter.tuning.order h.filter s in
    let e : min (suc (min (t + p.ran.done) h.advance)) h.advance
    ≡ min (t + (p.ran.done + 1)) h.advance = omega arith in
    subst
    (λ (n : ℕ). Steps (on_of (Prepared k d t) h p) l x
    (record {
      y = y;
      head = settled_of (carried_of h f y ((h.at + (p.ran.done + 1)) % 2112)) k (anew_of d.tuning.order d u) n;
    })
    m)
    e
    (led_steps h z c o v)
