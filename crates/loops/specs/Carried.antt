-- What is kept of a voice in a loop over its samples, as the heads that it makes.
-- Definitions alone. Assumes nothing.
use Rattle.std.specs.Prelude.{◌≡◌, ℕ, ◌+◌, ◌%◌, ◌≤◌, min}
use Rattle.integer.specs.declared.Value.{Value}
use Rattle.allpass.specs.declared.State.{State}
use Rattle.voice.specs.declared.Filter.{Filter}
use Rattle.rule.specs.Voice.{announced}
use Rattle.voice.specs.declared.Kind.{Kind}
use Rattle.voice.specs.declared.Kind.TheVariants.{Announced}
use Rattle.voice.specs.declared.Waiting.{Waiting}
use Rattle.voice.specs.declared.Waiting.TheVariants.{Idle, Prepared}
use Rattle.voice.specs.declared.Pluck.{Pluck}
use Rattle.voice.specs.declared.Head.{Head}
use Rattle.voice.specs.Struct.{kind_of, settled_of}
use Rattle.loops.specs.declared.Ran.{Ran}
use Rattle.loops.specs.declared.Led.{Led}
use Rattle.loops.specs.declared.plucked.Sung.{Sung}

-- f with another state, in an order that is its own
abbrev pub anew_of : ℕ → Filter → State → Filter
anew_of N f v = record {
  tuning = record { order = N; length = f.tuning.length; delay = f.tuning.delay };
  coefficients = f.coefficients;
  state = v;
}

-- h after some samples, with p left of its pluck; what waits is told beside it
abbrev pub left_of : Head → Filter → Value → Pluck → ℕ → Head
left_of h f y p at = record {
  filter = f;
  loss = h.loss;
  advance = h.advance;
  last = y;
  waiting = Idle;
  pluck = p;
  at = at;
}

-- the same where no pluck sounds
abbrev pub carried_of : Head → Filter → Value → ℕ → Head
carried_of h f y at = left_of h f y h.pluck at

-- the head that a loop leaves of h; what waits is told beside it
abbrev pub ran_of : Head → Ran → Head
ran_of h r =
    carried_of h (anew_of h.filter.tuning.order h.filter r.state) r.last ((h.at + r.done) % 2112)

-- the same with what waits as it was
abbrev pub moved_of : Head → Ran → Head
moved_of h r = record {
  filter = anew_of h.filter.tuning.order h.filter r.state;
  loss = h.loss;
  advance = h.advance;
  last = r.last;
  waiting = h.waiting;
  pluck = h.pluck;
  at = (h.at + r.done) % 2112;
}

-- the head that the loop of a pluck leaves of h, once n samples are done
abbrev pub sung_of : Head → Sung → ℕ → Head
sung_of h r n =
    left_of h (anew_of h.filter.tuning.order h.filter r.state) r.last r.rest
    ((h.at + n) % 2112)

-- the kind of the change that waits, where one does
abbrev pub kind_in : Waiting → Kind
kind_in Idle = Announced
kind_in (Prepared k e n) = k

-- a change of this kind that has taken n samples has not taken effect before: an ask never does by itself
abbrev pub Lasts : Kind → ℕ → ℕ → Type 0
Lasts k n advance = kind_of k ≡ announced → n ≤ advance

-- what a loop over n samples is told of what waits: the order and the filter of a change that does not take effect
-- before the last of them, and 0 for an order where nothing waits
abbrev pub Leads : Waiting → ℕ → Filter → ℕ → ℕ → Type 0
Leads Idle K e n advance = K ≡ 0
Leads (Prepared k d t) K e n advance = (K ≡ e.tuning.order) × (d ≡ e) × Lasts k (t + n) advance

-- the head that a stretch leaves of h, beside which this change waits or none: an announced one is in force once it
-- has taken as many samples as the advance
abbrev pub gone_of : Waiting → Head → Led → Head
gone_of Idle h p = ran_of h p.ran
gone_of (Prepared k e n) h p =
    settled_of (ran_of h p.ran) k (anew_of e.tuning.order e p.next) (min (n + p.ran.done) h.advance)

-- the head that a stretch leaves of h
abbrev pub after_of : Head → Led → Head
after_of h p = gone_of h.waiting h p
