-- specs/Theorems.antt: what an event leaves.
use mathlib.Core.Path.{◌≡◌, refl, sym, ◌∙◌}
use Prim.Native.Nat.{ℕ, ◌≤◌, ◌<◌}
use native.Mathlib.Decide.{ℕ_discrete, dec_lt}
use native.Mathlib.Omega.{arith}
use borrow.Author.Tests.{ne_eqb}
use Rattle.refusal.specs.Limits.{refusal}
use Rattle.rule.specs.Calls as C
use Rattle.rule.specs.Calls.{Call, limits}
use Rattle.rule.specs.State.{State, call}
use Rattle.instrument.specs.Strings.{Strings, calls}
use Rattle.instrument.proofs.Apart.{others, itself, number-itself}
use Rattle.events.specs.declared.Event.{Event}
use Rattle.events.specs.Events.{call_of, float_number, number, leaves}
use Rattle.events.specs.Theorems.{Acts, Theorems}
use Rattle.events.proofs.Handled.{number-above, leaves-above, number_float, leaves_float}
use Rattle.events.proofs.Handled.{number-call, leaves-call}

number_is : (v : State) (c : Call) → C.number v.voice c ≡ refusal (limits v.voice c)
unfolding C.number
number_is v c = refl

-- a refused call leaves its voice as it was
still : (v : State) (c : Call) → (C.number v.voice c ≡ 0 → ⊥) → call v c ≡ v
unfolding call
still v c f = rw (ne_eqb (C.number v.voice c) 0 f)

module _ (s : Strings) (k : ℕ) (e : Event) where
  acts : number s k e ≡ 0 → Acts s k e
  acts z = go (dec_lt 5 k) (ℕ_discrete (float_number (s k) e) 0)
    where
      go : Dec (5 < k) → Dec (float_number (s k) e ≡ 0) → Acts s k e
      go (yes h) d = absurd (omega (arith, number-above s k e h))
      go (no h) (no f) =
          let l : k ≤ 5 = omega arith in
          absurd (f (number_float s k e l f ∙ z))
      go (no h) (yes i) =
          let l : k ≤ 5 = omega arith in
          record {
            string = l;
            accepted = number-call s k e l i ∙ z;
            states = λ j. sym (leaves-call s k e l i j);
          }

  refused : (number s k e ≡ 0 → ⊥) → (j : ℕ) → leaves s k e j ≡ s j
  refused r j = go (dec_lt 5 k) (ℕ_discrete (float_number (s k) e) 0) (ℕ_discrete j k)
    where
      go : Dec (5 < k) → Dec (float_number (s k) e ≡ 0) → Dec (j ≡ k) → leaves s k e j ≡ s j
      go (yes h) d q = sym (leaves-above s k e h j)
      go (no h) (no f) q = sym (leaves_float s k e (omega arith) f j)
      go (no h) (yes i) (no o) =
          sym (leaves-call s k e (omega arith) i j) ∙ others s k j (calls (call_of (s k) e)) o
      go (no h) (yes i) (yes q) =
          let l : k ≤ 5 = omega arith in
          let c = call_of (s k) e in
          let n : C.number (s k).voice c ≡ 0 → ⊥
          = λ z. r (sym (number-call s k e l i) ∙ number-itself k l s (calls c) ∙ sym (number_is (s k) c) ∙ z) in
          rw q (sym (leaves-call s k e l i k) ∙ itself k l s (calls c) ∙ still (s k) c n)

pub theorems : Theorems
theorems = record { acts = acts; refused = refused }
