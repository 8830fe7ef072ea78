-- A resting voice in the code's structs, and what Open returns: the voice asked for, or the refused one.
-- Assumes nothing.
use mathlib.Core.Path.{◌≡◌, refl, sym, ap, subst, ◌∙◌}
use mathlib.Core.List.{List}
use Prim.Native.Nat.{ℕ, ◌≤◌}
use native.Mathlib.Omega.{arith}
use borrow.Author.Tests.{eq-eqb, ne_eqb}
use lib.IntN.{ℤ, pos}
use lib.ListN.{replicate}
use Rattle.integer.specs.Rounding.{M}
use Rattle.refusal.specs.Limits.{refusal}
use Rattle.allpass.specs.Bounds.{Within}
use Rattle.allpass.proofs.Bounds.{rest-within}
use Rattle.line.specs.Ring.{ring}
use Rattle.line.proofs.Ring.{ring-silent}
use Rattle.rule.specs.Voice.{Tuning, Voice, rest}
use Rattle.rule.specs.Calls.{Opening, open_limits, resting, opened}
use Rattle.rule.specs.State.{silence, fresh}
use Rattle.voice.specs.declared.Filter.{Filter}
use Rattle.voice.specs.declared.Waiting.TheVariants.{Idle}
use Rattle.voice.specs.declared.Head.{Head}
use Rattle.voice.specs.Struct.{tuning_of, filter_of, state_of}
use Rattle.voice.specs.Valid.{Tuned, Valid}
use Rattle.voice.proofs.Called.{voice_by}

-- ---- a resting voice
abbrev pub zeros : List ℤ
zeros = replicate 2112 (pos 0)

abbrev pub at_rest : Filter → ℕ → ℕ → Head
at_rest f G Na = record {
  filter = f;
  loss = G;
  advance = Na;
  last = record { n = pos 0 };
  waiting = Idle;
  pluck = record { amplitude = 0; left = 0; noise = 0 };
  at = 0;
}

module _ (f : Filter) (G Na : ℕ) where
  pub rests : {t : Tuning} → tuning_of f.tuning ≡ t → filter_of f ≡ rest t
      → state_of (at_rest f G Na) zeros ≡ record { voice = resting t G Na; line = silence }
  unfolding silence
  rests {t} e i =
      ap (λ (v : Voice). record { voice = v; line = ring 0 zeros }) (voice_by (at_rest f G Na) e i)
      ∙ ap (λ (l : List ℤ). record { voice = resting t G Na; line = l }) ring-silent

  pub rests_valid : Tuned f → G ≤ 65535 → Na ≤ 64 → Valid (at_rest f G Na) zeros
  rests_valid t g a = record {
    fit = record {
      filter = t;
      loss = g;
      advance = a;
      last = omega arith;
      waiting = tt;
      pluck = record {
        amplitude = omega arith;
        left = omega arith;
        noise = omega arith;
        none_left = λ z. (refl, refl);
      };
      at = omega arith;
    };
    line = subst (λ (l : List ℤ). Within M l) (sym ring-silent) (rest-within 2112);
  }

-- ---- Open
module _ (o : Opening) where
  pub opened-refused : (refusal (open_limits o) ≡ 0 → ⊥)
      → fresh o ≡ record { voice = resting (record { N = 1; L = 1; d = 4096 }) 0 0; line = silence }
  unfolding opened
  opened-refused f = rw (ne_eqb (refusal (open_limits o)) 0 f)

  pub opened-taken : refusal (open_limits o) ≡ 0
      → fresh o
      ≡ record { voice = resting (record { N = o.N; L = o.L; d = o.d }) o.G o.Na; line = silence }
  unfolding opened
  opened-taken e = rw (eq-eqb (refusal (open_limits o)) 0 e)
