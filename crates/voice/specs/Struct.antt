-- The voice that the code's structs hold, in the sample rule's terms: `state_of`, of a head and its line.
-- Where the ring of the line begins cannot be seen through it. Definitions alone. Assumes nothing.
use Rattle.std.specs.Prelude.{cond, List, ℕ, ℤ}
use Rattle.std.proofs.Math.Option.{Option, none, some}
use Rattle.allpass.specs.Stored.{held}
use Rattle.line.specs.Ring.{ring}
use Rattle.rule.specs.Voice as Rule
use Rattle.rule.specs.State.{State}
use Rattle.voice.specs.declared.Tuning.{Tuning}
use Rattle.voice.specs.declared.Filter.{Filter}
use Rattle.voice.specs.declared.Waiting.{Waiting}
use Rattle.voice.specs.declared.Kind.{Kind}
use Rattle.voice.specs.declared.Kind.TheVariants.{Announced, Asked}
use Rattle.voice.specs.declared.Waiting.TheVariants.{Idle, Prepared}
use Rattle.voice.specs.declared.Pluck.{Pluck}
use Rattle.voice.specs.declared.Head.{Head}

abbrev pub tuning_of : Tuning → Rule.Tuning
tuning_of t = record { N = t.order; L = t.length; d = t.delay }

-- the first N numbers of a filter's state
abbrev pub filter_of : Filter → List ℤ
filter_of f = held f.tuning.order f.state

abbrev pub kind_of : Kind → Rule.Kind
kind_of Announced = Rule.announced
kind_of Asked = Rule.asked

-- "kind (0 none, 1 announced, 2 asked)"
abbrev pub kind_number : Kind → ℕ
kind_number Announced = 1
kind_number Asked = 2

abbrev pub prepared_of : Kind → Filter → ℕ → Rule.Waiting
prepared_of k e n =
    record { kind = kind_of k; tuning = tuning_of e.tuning; taken = n; state = filter_of e }

abbrev pub waiting_of : Waiting → Option Rule.Waiting
waiting_of Idle = none
waiting_of (Prepared k e n) = some (prepared_of k e n)

abbrev pub pluck_of : Pluck → Rule.Pluck
pluck_of p = record { amplitude = p.amplitude; left = p.left; noise = p.noise }

abbrev pub voice_of : Head → Rule.Voice
voice_of h = record {
  tuning = tuning_of h.filter.tuning;
  G = h.loss;
  Na = h.advance;
  state = filter_of h.filter;
  last = h.last.n;
  waiting = waiting_of h.waiting;
  pluck = pluck_of h.pluck;
}

abbrev pub state_of : Head → List ℤ → State
state_of h l = record { voice = voice_of h; line = ring h.at l }

-- h with another filter in force and another change waiting
abbrev pub with_of : Head → Filter → Waiting → Head
with_of h f w = record {
  filter = f;
  loss = h.loss;
  advance = h.advance;
  last = h.last;
  waiting = w;
  pluck = h.pluck;
  at = h.at;
}

-- h with a change to the eliminator e, which has taken n samples: "If the eliminator has now taken Na samples,
-- L', d' and its state replace the voice's"
abbrev pub settled_of : Head → Kind → Filter → ℕ → Head
settled_of h k e n =
    cond (Rule.commits (kind_of k) n h.advance) (with_of h e Idle) (with_of h h.filter (Prepared k e n))
