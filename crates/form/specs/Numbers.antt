-- The numbers of a voice that its stored form holds, with no limit on any: document 02, L10.
-- Definitions alone.
use Rattle.std.specs.Prelude.{List, [], reverse, ℕ, zero, suc, ℤ}
use Rattle.std.proofs.Math.Option.{Option, none, some}
use Rattle.allpass.specs.Stored.{stored, held}
use Rattle.allpass.specs.declared.State.{State as Three}
use Rattle.rule.specs.Voice.{Tuning, tuning, Kind, announced, asked, Waiting, Pluck, Voice}
use Rattle.rule.specs.Calls.{resting}
use Rattle.rule.specs.State.{State, silence}

-- "a waiting change is kind (0 none, 1 announced, 2 asked), tuning, samples taken .. and state"
pub record Change : Type 0 where
  pub kind : ℕ
  pub tuning : Tuning
  pub taken : ℕ
  pub state : Three

-- "tuning, loss, advance, last output, filter state, waiting change, pluck, line"
pub record Numbers : Type 0 where
  pub tuning : Tuning
  pub G : ℕ
  pub Na : ℕ
  pub last : ℤ
  pub state : Three
  pub change : Change
  pub pluck : Pluck
  pub line : List ℤ

-- ---- those of a voice
abbrev pub kind_of : Kind → ℕ
kind_of announced = 1
kind_of asked = 2

-- "No change .. is all zeros"; "a state is v1, v2, v3, zero past the order"
abbrev pub change_of : Option Waiting → Change
change_of none = record { kind = 0; tuning = tuning 0 0 0; taken = 0; state = stored [] }
change_of (some w) =
    record { kind = kind_of w.kind; tuning = w.tuning; taken = w.taken; state = stored w.state }

-- "the line runs oldest first"
abbrev pub numbers_of : State → Numbers
numbers_of v = record {
  tuning = v.voice.tuning;
  G = v.voice.G;
  Na = v.voice.Na;
  last = v.voice.last;
  state = stored v.voice.state;
  change = change_of v.voice.waiting;
  pluck = v.voice.pluck;
  line = reverse v.line;
}

-- ---- the voice that has them
abbrev pub waits : Kind → Change → Waiting
waits k c =
    record { kind = k; tuning = c.tuning; taken = c.taken; state = held c.tuning.N c.state }

abbrev pub waiting_of : ℕ → Change → Option Waiting
waiting_of zero c = none
waiting_of (suc zero) c = some (waits announced c)
waiting_of (suc (suc k)) c = some (waits asked c)

abbrev pub state_of : Numbers → State
state_of i = record {
  voice = record {
    tuning = i.tuning;
    G = i.G;
    Na = i.Na;
    state = held i.tuning.N i.state;
    last = i.last;
    waiting = waiting_of i.change.kind i.change;
    pluck = i.pluck;
  };
  line = reverse i.line;
}

-- "Open's refusal voice": "a resting voice of order 1 with L 1, d 4,096, G 0, Na 0" (document 01)
abbrev pub refused : State
refused = record { voice = resting (tuning 1 1 4096) 0 0; line = silence }
