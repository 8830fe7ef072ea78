-- What Open returns, in the sample rule's terms; refused too.
-- Definitions alone. Assumes nothing.
use Rattle.std.specs.Prelude.{◌≡◌, ℕ}
use Rattle.refusal.specs.Limits.{refusal}
use Rattle.refusal.specs.Numbers.{code_of}
use Rattle.rule.specs.Calls as Rule
use Rattle.rule.specs.Calls.{open_limits}
use Rattle.rule.specs.State.{fresh}
use Rattle.voice.specs.Struct.{state_of}
use Rattle.voice.specs.Valid.{Valid}
use Rattle.open.specs.declared.Opening.{Opening}
use Rattle.open.specs.declared.Opened.{Opened as Returned}
use Rattle.open.specs.declared.Voice.{Voice}

abbrev pub opening_of : Opening → Rule.Opening
opening_of o = record {
  N = o.tuning.order;
  L = o.tuning.length;
  d = o.tuning.delay;
  G = o.loss;
  Na = o.advance;
}

-- an opening that is refused
abbrev pub nothing : Rule.Opening
nothing = record { N = 0; L = 0; d = 0; G = 0; Na = 0 }

-- what Open returns by number, and the voice
pub record Opened : Type 0 where
  pub refusal : ℕ
  pub voice : Voice

abbrev pub opened : Returned → Opened
opened r = record { refusal = code_of r.answer; voice = r.voice }

-- Open: its number, and the voice, "a resting voice .." where it refuses
pub record Opens (o : Rule.Opening) (r : Opened) : Type 0 where
  pub number : r.refusal ≡ refusal (open_limits o)
  pub state : state_of r.voice.head r.voice.line ≡ fresh o
  pub valid : Valid r.voice.head r.voice.line
