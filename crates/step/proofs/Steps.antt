-- A whole sample: what the loop, the pluck and the waiting change make of a voice is the rule's step.
-- Assumes nothing.
use mathlib.Core.Path.{◌≡◌, sym, ap, subst, ◌∙◌}
use mathlib.Core.List.{List, ◌∷◌}
use Prim.Native.Nat.{ℕ, ◌≤◌}
use lib.IntN.{ℤ, pos, ◌+ℤ◌, ◌*ℤ◌}
use lib.ListN.{take}
use Rattle.integer.specs.Rounding.{M}
use Rattle.integer.specs.Cut.{Q}
use Rattle.integer.proofs.Rounding.{clip_abs}
use Rattle.allpass.specs.Bounds.{Within, more}
use Rattle.line.specs.Ring.{ring}
use Rattle.rule.specs.Voice.{Voice, output, written, heard, fed_too, settled, stepped}
use Rattle.rule.specs.State as Rule
use Rattle.rule.specs.State.{back}
use Rattle.rule.proofs.States.{take_within, same-state}
use Rattle.voice.specs.declared.Waiting.{Waiting}
use Rattle.voice.specs.declared.Waiting.TheVariants.{Idle, Prepared}
use Rattle.voice.specs.declared.Pluck.{Pluck}
use Rattle.voice.specs.declared.Head.{Head}
use Rattle.step.specs.declared.sound.Sounded.{Sounded}
use Rattle.step.specs.declared.feedback.Circulated.{Circulated}
use Rattle.voice.specs.Struct.{waiting_of, voice_of}
use Rattle.voice.specs.Valid.{Waiting-valid, Fit, Valid}
use Rattle.step.specs.Sample.{Reads, previewed, PluckSounds, Settles, Circulates, Steps}

-- ---- the length that the eliminator reads at
previewed-within : (a : ℕ) (w : Waiting) (L : ℕ) → Waiting-valid a w → 1 ≤ L → L ≤ 2048
    → (1 ≤ previewed w L) × (previewed w L ≤ 2048)
previewed-within a Idle L v h k = (h, k)
previewed-within a (Prepared i e n) L v h k = (v.tuned.short, v.tuned.long)

-- m is what `preview` returns
pub preview_within : {h : Head} {m : ℕ} → Fit h → m ≡ previewed h.waiting h.filter.tuning.length
    → (1 ≤ m) × (m ≤ 2048)
preview_within {h} f e =
    let L = h.filter.tuning.length in
    let t = f.filter in
    rw e (previewed-within h.advance h.waiting L f.waiting t.short t.long)

reads_at : (w : Waiting) (L : ℕ) (q : ℕ → ℤ) {g : ℤ} → q (previewed w L) ≡ g → Reads w q g
reads_at Idle L q e = tt
reads_at (Prepared i n k) L q e = e

pub reads : (h : Head) {m : ℕ} {g : ℤ} (q : ℕ → ℤ) → m ≡ previewed h.waiting h.filter.tuning.length
    → g ≡ q m → Reads h.waiting q g
reads h q e i = reads_at h.waiting h.filter.tuning.length q (ap q (sym e) ∙ sym i)

-- ---- a step
-- h after a sample of the loop, with p left of its pluck; what waits is told beside it
abbrev pub heard_of : Head → Circulated → Pluck → Head
heard_of h r p = record {
  filter = r.filter;
  loss = h.loss;
  advance = h.advance;
  last = r.y;
  waiting = Idle;
  pluck = p;
  at = r.at;
}

module _ {h : Head} {l : List ℤ} (v : Valid h l) {x : ℤ} {p : Sounded} {r : Circulated} {k : List ℤ}
    (o : PluckSounds h.pluck p)
    (c : Circulates h.filter h.loss h.last.n h.at l x p.noise.n r k) where
  abbrev q : ℕ → ℤ
  q = back (ring h.at l)

  pub heard-fit : Fit (heard_of h r p.rest)
  heard-fit = record {
    filter = c.hears.moved.tuned;
    loss = v.fit.loss;
    advance = v.fit.advance;
    last = c.hears.small;
    waiting = tt;
    pluck = o.plucked;
    at = c.place;
  }

  heard-y : r.y.n ≡ output (voice_of h) q
  unfolding output
  heard-y = c.hears.y

  heard-voice : voice_of (heard_of h r p.rest) ≡ heard (voice_of h) q
  heard-voice = rw (← heard-y, c.hears.moved.state, c.hears.moved.tuning, o.rest)

  heard-line : ring r.at k ≡ written (voice_of h) q x ∷ take 2111 (ring h.at l)
  unfolding written
  heard-line = rw (← heard-y, ← o.value) c.line

  line-within : Within M (ring r.at k)
  line-within =
      let b = Q (pos h.loss *ℤ (r.y.n +ℤ h.last.n)) in
      subst (λ (l : List ℤ). Within M l) (sym c.line)
      (more (clip_abs ((x +ℤ p.noise.n) +ℤ b)) (take_within 2111 v.line))

  pub steps : {g : ℤ} {n : Head} → Reads h.waiting q g → Settles (heard_of h r p.rest) h.waiting g n
      → Steps h l x (record { y = r.y; head = n }) k
  unfolding Rule.step Rule.sounds stepped
  steps {n = n} e z = record {
    y = heard-y;
    small = c.hears.small;
    state =
        same-state
        (z.voice q e ∙ ap (λ (v : Voice). settled v (fed_too h.advance (waiting_of h.waiting) q))
        heard-voice)
        (ap (λ (at : ℕ). ring at k) z.place ∙ heard-line);
    valid = record {
      fit = z.fit;
      line = subst (λ (at : ℕ). Within M (ring at k)) (sym z.place) line-within;
    };
  }
