-- The limits of a head's parts are the voice's invariant, either way.
use mathlib.Core.Path.{◌≡◌, refl, ap, ◌∙◌}
use mathlib.Core.List.{[], ◌∷◌}
use Prim.Native.Nat.{ℕ, zero, suc, ◌*◌, ◌≤◌, ◌<◌}
use native.Mathlib.Omega.{arith}
use lib.IntN.{ℤ, pos, nat_abs}
use lib.ListN.{take, get_or}
use Rattle.integer.specs.Rounding.{M}
use Rattle.refusal.specs.Ranges.{InRange, order_1, order_2, order_3}
use Rattle.refusal.proofs.Ranges.{ranges}
use Rattle.allpass.specs.Bounds.{Within, none, more}
use Rattle.allpass.specs.Stored.{stored, held}
use Rattle.allpass.specs.declared.State.{State}
use Rattle.rule.specs.Tests.{askings}
use Rattle.voice.specs.declared.Filter.{Filter}
use Rattle.voice.specs.declared.Kind.TheVariants.{Announced, Asked}
use Rattle.voice.specs.declared.Waiting.{Waiting}
use Rattle.voice.specs.declared.Waiting.TheVariants.{Idle, Prepared}
use Rattle.voice.specs.Valid.{Tuned, Waiting-valid}
use Rattle.voice.proofs.Within.{read-within}
use Rattle.packed.specs.Limits.{FilterLimits, WaitingLimits, Bounds}

-- ---- a state of order N: 0 past the order
put : (a b c x y : ℤ) → b ≡ x → c ≡ y
    → ◌≡◌ {A = State} (record { v1 = a; v2 = b; v3 = c }) (record { v1 = a; v2 = x; v3 = y })
put a b c x y p q = rw (p, q)

module _ (s : State) (v1 : nat_abs s.v1 ≤ 16777214) (v2 : nat_abs s.v2 ≤ 16777214)
    (v3 : nat_abs s.v3 ≤ 16777214) where
  kept : {N d : ℕ} → InRange N d → (N < 2 → s.v2 ≡ pos 0) → (N < 3 → s.v3 ≡ pos 0)
      → (s ≡ stored (held N s)) × Within (2 * M) (held N s)
  unfolding stored
  kept (order_1 b) f g = (put s.v1 s.v2 s.v3 (pos 0) (pos 0) (f (omega arith)) (g (omega arith)), more v1 none)
  kept (order_2 b) f g = (put s.v1 s.v2 s.v3 s.v2 (pos 0) refl (g (omega arith)), more v1 (more v2 none))
  kept (order_3 b) f g = (refl, more v1 (more v2 (more v3 none)))

second_0 : (N : ℕ) (a b c : ℤ) → N < 2 → get_or (take N (a ∷ b ∷ c ∷ [])) 1 (pos 0) ≡ pos 0
second_0 zero a b c h = refl
second_0 (suc zero) a b c h = refl
second_0 (suc (suc N)) a b c h = absurd (omega arith)

third_0 : (N : ℕ) (a b c : ℤ) → N < 3 → get_or (take N (a ∷ b ∷ c ∷ [])) 2 (pos 0) ≡ pos 0
third_0 zero a b c h = refl
third_0 (suc zero) a b c h = refl
third_0 (suc (suc zero)) a b c h = refl
third_0 (suc (suc (suc N))) a b c h = absurd (omega arith)

-- ---- a filter
pub tuned : (f : Filter) → FilterLimits f → Tuned f
tuned f l =
    let t = (ranges.takes f.tuning.order f.tuning.delay).1 l.delay in
    let k = kept f.state l.v1 l.v2 l.v3 l.delay l.second l.third in
    record {
      takes = t;
      short = l.length.least;
      long = l.length.most;
      coefficients_are = l.coefficients_are;
      past = k.0;
      within = k.1;
    }

pub limited : (f : Filter) → Tuned f → FilterLimits f
unfolding stored
limited f t =
    let N = f.tuning.order in
    let s = f.state in
    let w1 = ap (λ (u : State). u.v1) t.past in
    let w2 = ap (λ (u : State). u.v2) t.past in
    let w3 = ap (λ (u : State). u.v3) t.past in
    record {
      delay = (ranges.takes N f.tuning.delay).0 t.takes;
      length = record { least = t.short; most = t.long };
      coefficients_are = t.coefficients_are;
      v1 = omega (arith, read-within 0 t.within w1);
      v2 = omega (arith, read-within 1 t.within w2);
      v3 = omega (arith, read-within 2 t.within w3);
      second = λ h. w2 ∙ second_0 N s.v1 s.v2 s.v3 h;
      third = λ h. w3 ∙ third_0 N s.v1 s.v2 s.v3 h;
    }

-- ---- what waits
waiting-fits : (Na : ℕ) (w : Waiting) → WaitingLimits Na w → Waiting-valid Na w
waiting-fits Na Idle l = tt
waiting-fits Na (Prepared Announced e n) l =
    record { tuned = tuned e l.0; counted = omega (arith, l.1); early = λ k. l.1 }
waiting-fits Na (Prepared Asked e n) l =
    record {
      tuned = tuned e l.0;
      counted = l.1;
      early = λ k.
          let z = ap askings k in
          absurd (omega (arith, z));
    }

waiting_limited : (Na : ℕ) (w : Waiting) → Waiting-valid Na w → WaitingLimits Na w
waiting_limited Na Idle v = tt
waiting_limited Na (Prepared Announced e n) v = (limited e v.tuned, v.early refl)
waiting_limited Na (Prepared Asked e n) v = (limited e v.tuned, v.counted)

-- ---- a head
pub bounds : Bounds
bounds h = (
  (λ l. record {
    filter = tuned h.filter l.filter;
    loss = l.loss;
    advance = l.advance;
    last = l.last;
    waiting = waiting-fits h.advance h.waiting l.waiting;
    pluck = record {
      amplitude = l.pluck.amplitude;
      left = l.pluck.left;
      noise = omega (arith, l.pluck.noise);
      none_left = l.pluck.none_left;
    };
    at = l.at;
  }),
  (λ f. record {
    filter = limited h.filter f.filter;
    loss = f.loss;
    advance = f.advance;
    last = f.last;
    waiting = waiting_limited h.advance h.waiting f.waiting;
    pluck = record {
      amplitude = f.pluck.amplitude;
      left = f.pluck.left;
      noise = omega (arith, f.pluck.noise);
      none_left = f.pluck.none_left;
    };
    at = f.at;
  }),
)
