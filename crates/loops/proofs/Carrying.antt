-- What a sample makes of a head that a loop carries on: a step of the rule, and a head of the same form.
-- Assumes nothing.
use mathlib.Core.Path.{◌≡◌, refl, sym, ap, ◌∙◌}
use mathlib.Core.List.{List}
use Prim.Native.Nat.{ℕ, suc, ◌≤◌, ◌<◌, min}
use native.Mathlib.Omega.{arith}
use lib.IntN.{ℤ, pos}
use Rattle.integer.specs.declared.Value.{Value}
use Rattle.allpass.specs.declared.State.{State}
use Rattle.allpass.specs.Stored.{held, stored}
use Rattle.line.specs.Ring.{ring}
use Rattle.rule.specs.Voice.{announced}
use Rattle.rule.specs.State.{back}
use Rattle.rule.proofs.Steps.{commits-not}
use Rattle.voice.specs.declared.Filter.{Filter}
use Rattle.voice.specs.declared.Kind.{Kind}
use Rattle.voice.specs.declared.Waiting.{Waiting}
use Rattle.voice.specs.declared.Waiting.TheVariants.{Idle, Prepared}
use Rattle.voice.specs.declared.Pluck.{Pluck}
use Rattle.voice.specs.declared.Head.{Head}
use Rattle.voice.specs.Struct.{kind_of, with_of, settled_of}
use Rattle.voice.specs.Valid.{Tuned, Valid}
use Rattle.step.specs.declared.sound.Sounded.{Sounded}
use Rattle.step.specs.declared.feedback.Circulated.{Circulated}
use Rattle.step.specs.Sample.{Moved, PluckSounds, Circulates, Steps}
use Rattle.step.proofs.Silent.{sounds-none}
use Rattle.step.proofs.Settles.{settles_idle, settles}
use Rattle.step.proofs.Steps.{heard-fit, steps}
use Rattle.loops.specs.Carried.{anew_of, left_of, carried_of}

-- ---- filters
pub anew_self : {N : ℕ} (f : Filter) → N ≡ f.tuning.order → anew_of N f f.state ≡ f
anew_self f e = rw e

-- what is asked where the numbers of a filter's state are kept
pub keeps : {N : ℕ} (f : Filter) → Tuned f → N ≡ f.tuning.order → N ≤ 3
keeps f t e = rw e t.takes.most

-- the state of a filter whose numbers up to the order are kept
pub kept_self : {N : ℕ} {v : State} (f : Filter) → Tuned f → N ≡ f.tuning.order → v ≡ stored (held N f.state)
    → v ≡ f.state
kept_self f t e k = k ∙ ap (λ (N : ℕ). stored (held N f.state)) e ∙ sym t.past

pub kept_anew : {N : ℕ} {v : State} (f : Filter) → Tuned f → N ≡ f.tuning.order → v ≡ stored (held N f.state)
    → anew_of N f v ≡ f
kept_anew {N} f t e k = ap (λ (v : State). anew_of N f v) (kept_self f t e k) ∙ anew_self f e

-- ---- with nothing waiting
pub carried_self : {f : Filter} (h : Head) → f ≡ h.filter → h.waiting ≡ Idle
    → carried_of h f h.last h.at ≡ h
carried_self h e w =
    ap (λ (f : Filter). carried_of h f h.last h.at) e
    ∙ ap (λ (x : Waiting). with_of h h.filter x) (sym w)

-- with p left of a pluck, which gives o
pub sung_steps : (h : Head) {f : Filter} {y : Value} {p : Pluck} {at : ℕ} {l : List ℤ} {x : ℤ} {o : Sounded}
    {r : Circulated} {k : List ℤ} → PluckSounds p o
    → Circulates f h.loss y.n at l x o.noise.n r k → Valid (left_of h f y p at) l
    → Steps (left_of h f y p at) l x
    (record { y = r.y; head = left_of h r.filter r.y o.rest r.at }) k
sung_steps h o c v = steps v o c {g = pos 0} tt (settles_idle (heard-fit v o c))

module _ (h : Head) {f : Filter} {y : Value} {at : ℕ} {l : List ℤ} {x : ℤ} {r : Circulated} {k : List ℤ}
    (z : h.pluck.left ≡ 0) (c : Circulates f h.loss y.n at l x (pos 0) r k) where
  pub quiet-steps : Valid (carried_of h f y at) l
      → Steps (carried_of h f y at) l x (record { y = r.y; head = carried_of h r.filter r.y r.at }) k
  quiet-steps v = sung_steps h (sounds-none v.fit.pluck z) c v

  -- ---- with a change that waits
  module _ {i : Kind} {e n : Filter} {t : ℕ} (m : Moved e (back (ring at l) e.tuning.length) n)
      (v : Valid (with_of (carried_of h f y at) f (Prepared i e t)) l) where
    pub led_steps : Steps (with_of (carried_of h f y at) f (Prepared i e t)) l x
        (record {
          y = r.y;
          head = settled_of (carried_of h r.filter r.y r.at) i n (min (suc t) h.advance);
        })
        k
    led_steps =
        let o = sounds-none v.fit.pluck z in
        steps v o c {g = back (ring at l) e.tuning.length} refl
        (settles (heard-fit v o c) i t m)

-- ---- a change that waits
pub due-later : (h : Head) (i : Kind) (e : Filter) (k : ℕ) → (kind_of i ≡ announced → k < h.advance)
    → settled_of h i e k ≡ with_of h h.filter (Prepared i e k)
due-later h i e k l = rw (commits-not (kind_of i) k h.advance l)

pub due_self : {N K : ℕ} {i : Kind} {e : Filter} {t k : ℕ} (h : Head)
    → N ≡ h.filter.tuning.order → K ≡ e.tuning.order
    → h.waiting ≡ Prepared i e t → k ≡ t → (kind_of i ≡ announced → t < h.advance)
    → settled_of (carried_of h (anew_of N h.filter h.filter.state) h.last h.at) i
    (anew_of K e e.state) k ≡ h
due_self {N} {K} {i} {e} {t} {k} h p j w z early =
    let f = anew_of N h.filter h.filter.state in
    let waits = ap (λ (n : ℕ). Prepared i (anew_of K e e.state) n) z
    ∙ ap (λ (e : Filter). Prepared i e t) (anew_self e j) in
    due-later (carried_of h f h.last h.at) i (anew_of K e e.state) k (λ a. omega (arith, early a))
    ∙ ap (λ (f : Filter). with_of h f (Prepared i (anew_of K e e.state) k)) (anew_self h.filter p)
    ∙ ap (λ (x : Waiting). with_of h h.filter x) (waits ∙ sym w)

pub due_as : (h : Head) (y : Value) (at : ℕ) (i : Kind) {f g d e : Filter} {t u : ℕ} → f ≡ g → d ≡ e → t ≡ u
    → settled_of (carried_of h f y at) i d t ≡ settled_of (carried_of h g y at) i e u
due_as h y at i p q r = cc (p, q, r)
