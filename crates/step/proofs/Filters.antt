-- A tuned filter and a sample: it can be fed, its output and next state are the rule's, and it stays tuned.
-- Assumes nothing.
use mathlib.Core.Path.{◌≡◌, refl, sym, ap, ◌∙◌}
use mathlib.Core.List.{List}
use Prim.Native.Nat.{◌≤◌}
use lib.IntN.{ℤ, nat_abs}
use Rattle.integer.specs.Rounding.{M}
use Rattle.integer.specs.declared.Value.{Value}
use Rattle.thiran.specs.Answers.{taps}
use Rattle.allpass.specs.Allpass.{next, out}
use Rattle.allpass.specs.Stored.{stored, held, Fed}
use Rattle.allpass.specs.declared.State.{State}
use Rattle.allpass.proofs.Bounds.{out_within}
use Rattle.allpass.proofs.Stored.{fed-held, fed-next}
use Rattle.allpass.proofs.Taken.{taken-taps, taken-small}
use Rattle.rule.specs.Voice.{A}
use Rattle.voice.specs.declared.Filter.{Filter}
use Rattle.voice.specs.Struct.{tuning_of, filter_of}
use Rattle.voice.specs.Valid.{Tuned}
use Rattle.step.specs.Sample.{Moved, Hears}

-- the coefficients that its struct holds
abbrev pub taps_of : Filter → List ℤ
taps_of f = taps f.tuning.order f.coefficients

-- f with the state s
abbrev pub state_to : Filter → State → Filter
state_to f s = record { tuning = f.tuning; coefficients = f.coefficients; state = s }

pub tuned-taps : {f : Filter} → Tuned f → taps_of f ≡ A (tuning_of f.tuning)
tuned-taps {f} t =
    taken-taps f.tuning.order f.tuning.delay t.takes f.coefficients t.coefficients_are

module _ {f : Filter} (t : Tuned f) {x : ℤ} (k : nat_abs x ≤ M) where
  pub tuned-fed : Fed f.tuning.order f.coefficients f.state x
  tuned-fed =
      let N = f.tuning.order in
      let d = f.tuning.delay in
      record {
        least = t.takes.least;
        most = t.takes.most;
        taps_small = taken-small N d t.takes f.coefficients t.coefficients_are;
        state_within = t.within;
        sample = k;
      }

  pub tuned-moved : {s : State} → s ≡ stored (next (taps_of f) (filter_of f) x) → Moved f x (state_to f s)
  tuned-moved e =
      let q = ap (λ (s : State). held f.tuning.order s) e ∙ fed-held tuned-fed in
      record {
        tuning = refl;
        state = q ∙ ap (λ (A : List ℤ). next A (filter_of f) x) (tuned-taps t);
        tuned = record {
          takes = t.takes;
          short = t.short;
          long = t.long;
          coefficients_are = t.coefficients_are;
          past = e ∙ ap stored (sym q);
          within = rw e (fed-next tuned-fed x k).state_within;
        };
      }

  pub tuned-hears : {y : Value} {s : State} → y.n ≡ out (taps_of f) (filter_of f) x
      → s ≡ stored (next (taps_of f) (filter_of f) x) → Hears f x (record { y = y; filter = state_to f s })
  tuned-hears i e = record {
    y = i ∙ ap (λ (A : List ℤ). out A (filter_of f) x) (tuned-taps t);
    small = rw i (out_within (taps_of f) (filter_of f) x);
    moved = tuned-moved e;
  }
