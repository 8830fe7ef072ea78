-- What an event leaves: an accepted one is an accepted call on its string, and a refused one changes nothing.
-- So the click figure holds over events as over these calls. proofs/Theorems.antt proves `Theorems`.
use Rattle.std.specs.Prelude.{◌≡◌, ℕ, ◌≤◌}
use Rattle.instrument.specs.Strings.{Strings, on, calls, play}
use Rattle.instrument.specs.Strings as S
use Rattle.events.specs.declared.Event.{Event}
use Rattle.events.specs.Events.{call_of, number, leaves}

-- "They act as an announced change, order kept, and the loss call of one string"
pub record Acts (s : Strings) (k : ℕ) (e : Event) : Type 0 where
  pub string : k ≤ 5
  pub accepted : S.number s (on k (calls (call_of (s k) e))) ≡ 0
  pub states : (j : ℕ) → leaves s k e j ≡ play s (on k (calls (call_of (s k) e))) j

pub record Theorems : Type 0 where
  pub acts : (s : Strings) (k : ℕ) (e : Event) → number s k e ≡ 0 → Acts s k e
  -- "Nothing changes"
  pub refused : (s : Strings) (k : ℕ) (e : Event) → (number s k e ≡ 0 → ⊥) → (j : ℕ) → leaves s k e j ≡ s j
