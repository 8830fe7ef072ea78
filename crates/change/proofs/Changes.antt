-- What an accepted change makes of a voice from a resting eliminator of its tuning, and what it counts.
-- Assumes nothing.
use mathlib.Core.Path.{◌≡◌, refl, sym, ap, ◌∙◌}
use mathlib.Core.Bool.{Bool, true, false, cond}
use mathlib.Core.List.{List}
use mathlib.Core.Option.{none, some}
use Prim.Native.Nat.{ℕ}
use native.Mathlib.Omega.{arith}
use borrow.Author.Tests.{eq-eqb, ne_eqb}
use lib.IntN.{ℤ}
use lib.ListN.{length}
use Rattle.integer.specs.Rounding.{M}
use Rattle.allpass.specs.Allpass as Allpass
use Rattle.allpass.specs.Allpass.{run}
use Rattle.allpass.specs.Bounds.{Within}
use Rattle.line.specs.Ring.{ring}
use Rattle.rule.specs.Voice as Rule
use Rattle.rule.specs.Voice.{Voice, tuning, A, commits, tuned, settled}
use Rattle.refusal.specs.Limits.{refusal}
use Rattle.refusal.proofs.Returned.{passed}
use Rattle.rule.specs.Calls.{Call, change_limits, prepare, instant, number, window, start, done, count}
use Rattle.rule.specs.State.{back}
use Rattle.voice.specs.declared.Tuning.{Tuning}
use Rattle.voice.specs.declared.Filter.{Filter}
use Rattle.voice.specs.declared.Kind.{Kind}
use Rattle.voice.specs.declared.Waiting.TheVariants.{Idle, Prepared}
use Rattle.voice.specs.declared.Head.{Head}
use Rattle.voice.specs.Struct.{tuning_of, kind_of, voice_of, with_of, settled_of}
use Rattle.voice.specs.Valid.{Preparing, Fit}
use Rattle.step.specs.Sample.{Ran}
use Rattle.step.proofs.Settles.{not_yet}
use Rattle.voice.specs.Called.{Rests, Called, On}
use Rattle.change.specs.Refused.{RefusedBy}
use Rattle.voice.proofs.Tunes.{change_tunes}
use Rattle.voice.proofs.Called.{voice_by, fit_as, called, called_on}

-- ---- in the rule's terms
module _ (v : Voice) (w : Rule.Waiting) where
  settled-now : commits w.kind w.taken v.Na ≡ true
      → settled v (some w) ≡ tuned v w.tuning w.state none
  unfolding settled
  settled-now e = rw e

  settled-later : commits w.kind w.taken v.Na ≡ false
      → settled v (some w) ≡ tuned v v.tuning v.state (some w)
  unfolding settled
  settled-later e = rw e

module _ (v : Voice) (r : ℕ → ℤ) (to : Rule.Tuning) where
  pub count-refused : {n : ℕ} → n ≡ number v (instant to) → (n ≡ 0 → ⊥) → 0 ≡ count v r (instant to)
  unfolding count
  count-refused e f = rw (ne_eqb (number v (instant to)) 0 (λ z. f (e ∙ z)))

  -- as many as were run
  pub count-accepted : {n k : ℕ} → n ≡ number v (instant to) → n ≡ 0
      → k ≡ length (window r to.L v.Na) → k ≡ count v r (instant to)
  unfolding count
  count-accepted e z i = i ∙ rw (eq-eqb (number v (instant to)) 0 (sym e ∙ z))

-- ---- in the structs of the code
-- what the number of a change says
pub refused-by : (h : Head) (t : Rule.Tuning) {r : ℕ} → r ≡ refusal (change_limits (voice_of h) t)
    → RefusedBy h t.N t.L t.d r
refused-by h t e = record {
  number = e;
  within = λ z. change_tunes (voice_of h) t (passed (change_limits (voice_of h) t) tt (sym e ∙ z));
}

module _ {h : Head} {N L d : ℕ} {e : Filter} (k : Fit h) (r : Rests N L d e) where
  abbrev to : Rule.Tuning
  to = tuning N L d

  -- prepared as the kind i is: in force at once, or waiting
  pub changes-prepared : {n : ℕ} (i : Kind) → n ≡ number (voice_of h) (prepare (kind_of i) to) → n ≡ 0
      → Called h (prepare (kind_of i) to) (record { refusal = 0; head = settled_of h i e 0 })
  unfolding done
  changes-prepared i n z = go (commits (kind_of i) 0 h.advance) refl
    where
      c : Call
      c = prepare (kind_of i) to

      w : Rule.Waiting
      w = start (kind_of i) to

      waits : commits (kind_of i) 0 h.advance ≡ false
          → Preparing h.advance i e 0
      waits b = record {
        tuned = r.tuned;
        counted = omega arith;
        early = not_yet (kind_of i) 0 h.advance (omega arith) b;
      }

      go : (b : Bool) → commits (kind_of i) 0 h.advance ≡ b
          → Called h c
          (record { refusal = 0; head = cond b (with_of h e Idle) (with_of h h.filter (Prepared i e 0)) })
      go true b =
          let i = voice_by (with_of h e Idle) (ap tuning_of r.tuning) r.state in
          called h c (with_of h e Idle) refl n z refl (fit_as k r.tuned k.loss tt k.pluck)
          (λ q. i ∙ sym (settled-now (voice_of h) w b))
      go false b =
          called h c (with_of h h.filter (Prepared i e 0)) refl n z refl
          (fit_as k k.filter k.loss (waits b) k.pluck)
          (λ q. cc (r.tuning, r.state, settled-later (voice_of h) w b))

  pub changes-instantly : {p : Filter} (l : List ℤ) → Within M (ring h.at l)
      → {n : ℕ} → n ≡ number (voice_of h) (instant to) → n ≡ 0
      → Ran e (window (back (ring h.at l)) e.tuning.length h.advance) p
      → On h l (instant to) (record { refusal = 0; head = with_of h p Idle }) l
  unfolding done
  changes-instantly {p} l in-line n z ran =
      let a = h.advance in
      let q = back (ring h.at l) in
      let state =
      ran.state
      ∙ ap (λ (v : List ℤ). run (A (tuning_of e.tuning)) v (window q e.tuning.length a)) r.state
      ∙ ap (λ (t : Tuning). run (A (tuning_of t)) (Allpass.rest N) (window q t.length a)) r.tuning in
      let i = voice_by (with_of h p Idle) (ap tuning_of (ran.tuning ∙ r.tuning)) state in
      called_on h (instant to) (with_of h p Idle) refl n z refl
      (fit_as k ran.tuned k.loss tt k.pluck) l in-line i
