-- What a refused call leaves, and an accepted one, in the rule's terms and in those of the calls' contracts.
-- Assumes nothing.
use mathlib.Core.Path.{◌≡◌, refl, sym, ap, ◌∙◌}
use mathlib.Core.List.{List, []}
use Prim.Native.Nat.{ℕ, ◌≤◌}
use borrow.Author.Tests.{eq-eqb, ne_eqb}
use lib.IntN.{ℤ}
use Rattle.integer.specs.Rounding.{M}
use Rattle.allpass.specs.Bounds.{Within}
use Rattle.line.specs.Ring.{ring}
use Rattle.std.specs.Prelude.{Result, Ok, Err}
use Rattle.refusal.specs.declared.Refusal.{Refusal}
use Rattle.refusal.specs.Numbers.{number_of}
use Rattle.refusal.proofs.Numbers.{refused-above}
use Rattle.rule.specs.Voice.{Tuning, tuned}
use Rattle.rule.specs.Calls.{Call, number, done, inputs}
use Rattle.rule.specs.State.{State, back, block_after, told, call}
use Rattle.voice.specs.declared.Filter.{Filter}
use Rattle.voice.specs.declared.Waiting.{Waiting}
use Rattle.voice.specs.declared.Pluck.{Pluck}
use Rattle.voice.specs.declared.Head.{Head}
use Rattle.voice.specs.Struct.{tuning_of, filter_of, waiting_of, voice_of, state_of}
use Rattle.voice.specs.Valid.{Tuned, Waiting-valid, Plucked, Fit}
use Rattle.voice.specs.Called.{Answer, answered, Called, On}

module _ (v : State) (c : Call) where
  pub call-refused : (number v.voice c ≡ 0 → ⊥) → call v c ≡ v
  unfolding call
  call-refused f = rw (ne_eqb (number v.voice c) 0 f)

  pub call-accepted : number v.voice c ≡ 0 → call v c ≡ block_after (told v c) (inputs c)
  unfolding call
  call-accepted e = rw (eq-eqb (number v.voice c) 0 e)

-- ---- heads
-- the voice of a head by its filter's tuning and state
pub voice_by : (h : Head) {t : Tuning} {q : List ℤ}
    → tuning_of h.filter.tuning ≡ t → filter_of h.filter ≡ q
    → voice_of h ≡ tuned (voice_of h) t q (waiting_of h.waiting)
voice_by h e i = cc

-- a head with the same advance, last output and place
pub fit_as : {h : Head} {f : Filter} {g : ℕ} {w : Waiting} {p : Pluck} → Fit h → Tuned f → g ≤ 65535
    → Waiting-valid h.advance w → Plucked p
    → Fit (record {
      filter = f;
      loss = g;
      advance = h.advance;
      last = h.last;
      waiting = w;
      pluck = p;
      at = h.at;
    })
fit_as k f g w p = record {
  filter = f;
  loss = g;
  advance = k.advance;
  last = k.last;
  waiting = w;
  pluck = p;
  at = k.at;
}

-- ---- the contracts of the calls that do not step
module _ (h : Head) (c : Call) where
  pub called-refused : {k : ℕ} → Fit h → k ≡ number (voice_of h) c → (k ≡ 0 → ⊥)
      → Called h c (record { refusal = k; head = h })
  called-refused fit e f = record {
    number = e;
    state = λ l. sym (call-refused (state_of h l) c (λ z. f (e ∙ z)));
    fit = fit;
    place = refl;
  }

  -- r is what it is refused by
  pub called-err : {x : Result Head Refusal} (r : Refusal) → Fit h → x ≡ Err r
      → number_of r ≡ number (voice_of h) c → Called h c (answered h x)
  called-err r fit i e = rw i (called-refused fit e (refused-above r))

  -- r is what an accepted one makes of h
  module _ (r : Head) {k : ℕ} (still : inputs c ≡ []) (e : k ≡ number (voice_of h) c) (z : k ≡ 0)
      (place : r.at ≡ h.at) (fit : Fit r) where
    after : (l : List ℤ) → voice_of r ≡ done (voice_of h) (back (ring h.at l)) c
        → state_of r l ≡ call (state_of h l) c
    after l i =
        cc (
          i,
          place,
          ap (λ (xs : List ℤ). block_after (told (state_of h l) c) xs) still,
          call-accepted (state_of h l) c (sym e ∙ z),
        )

    pub called : ((q : ℕ → ℤ) → voice_of r ≡ done (voice_of h) q c)
        → Called h c (record { refusal = 0; head = r })
    called i = record {
      number = sym z ∙ e;
      state = λ l. after l (i (back (ring h.at l)));
      fit = fit;
      place = place;
    }

    pub called_on : (l : List ℤ) → Within M (ring h.at l)
        → voice_of r ≡ done (voice_of h) (back (ring h.at l)) c
        → On h l c (record { refusal = 0; head = r }) l
    called_on l w i = record {
      number = sym z ∙ e;
      state = after l i;
      valid = record { fit = fit; line = rw place w };
    }

-- a call that is the same on whatever line, on this one
pub on : {h : Head} {c : Call} {r : Answer} (l : List ℤ) → Called h c r → Within M (ring h.at l)
    → On h l c r l
on l k w = record {
  number = k.number;
  state = k.state l;
  valid = record { fit = k.fit; line = rw k.place w };
}
