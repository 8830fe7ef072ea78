-- A junction of two tubes and what one sample does to it: document 02, L12. Definitions alone.
use Rattle.std.specs.Prelude.{cond, List, ℕ, suc, ◌+◌, ◌-◌, eqb, ℤ, pos, ◌+ℤ◌, ◌-ℤ◌, ◌*ℤ◌}
use Rattle.std.proofs.Math.Option.{Option, none, some}
use Rattle.integer.specs.Rounding.{nearest, clip}
use Rattle.integer.specs.Cut.{cut}
use Rattle.thiran.specs.Coefficients.{coefficients}
use Rattle.allpass.specs.Allpass.{rest, next, out}

-- "With a from the left and b from the right": what comes from one side, and from both
pub data Side : Type 0 where
  from_left : Side
  from_right : Side

pub record Two (X : Type 0) : Type 0 where
  pub a : X
  pub b : X

abbrev pub at : {X : Type 0} → Side → Two X → X
at from_left p = p.a
at from_right p = p.b

abbrev pub both : {X : Type 0} → (Side → X) → Two X
both f = record { a = f from_left; b = f from_right }

-- "r = (left − right)/(left + right), nearest in units of 1/32,768, half upward"
unfoldable pub reflection : ℕ → ℕ → ℤ
reflection left right = nearest (pos 32768 *ℤ (pos left -ℤ pos right)) (left + right)

-- "b through the allpass of delay 8,192 − d", "a through the allpass of delay d"
abbrev pub delay : Side → ℕ → ℕ
delay from_left d = d
delay from_right d = 8192 - d

-- its coefficient: "order 1"
abbrev pub A : Side → ℕ → List ℤ
A s d = coefficients 1 (delay s d)

-- a move that waits: its d, how many inputs its eliminators have taken, and their states
pub record Move : Type 0 where
  pub d : ℕ
  pub taken : ℕ
  pub states : Two (List ℤ)

-- the sample before, from each side, is `last`
pub record Junction : Type 0 where
  pub r : ℤ
  pub d : ℕ
  pub Na : ℕ
  pub states : Two (List ℤ)
  pub last : Two ℤ
  pub waiting : Option Move

abbrev pub rest_states : Two (List ℤ)
rest_states = both (λ s. rest 1)

-- ---- a sample x
-- what the filter over the side s puts out
unfoldable pub filter_output : Junction → Two ℤ → Side → ℤ
filter_output j x s = out (A s j.d) (at s j.states) (at s x)

-- "the right gets (1 + r) times a delayed one sample, less r times b through the allpass of delay 8,192 − d";
-- "Each sum is divided once, toward zero, and clipped"
unfoldable pub to_right : Junction → Two ℤ → ℤ
to_right j x =
    clip (cut ((pos 32768 +ℤ j.r) *ℤ j.last.a -ℤ j.r *ℤ filter_output j x from_right) 32768)

-- "the left gets r times a through the allpass of delay d, plus (1 − r) times b delayed one sample"
unfoldable pub to_left : Junction → Two ℤ → ℤ
to_left j x =
    clip (cut (j.r *ℤ filter_output j x from_left +ℤ (pos 32768 -ℤ j.r) *ℤ j.last.b) 32768)

-- states of filters of d, having taken x
abbrev pub next_states : ℕ → Two (List ℤ) → Two ℤ → Two (List ℤ)
next_states d v x = both (λ s. next (A s d) (at s v) (at s x))

-- "two eliminators run on the next Na inputs"
abbrev pub feed : Move → Two ℤ → Move
feed w x = record { d = w.d; taken = suc w.taken; states = next_states w.d w.states x }

abbrev pub feed_waiting : Option Move → Two ℤ → Option Move
feed_waiting none x = none
feed_waiting (some w) x = some (feed w x)

-- the junction whose filters took x; what waits is told beside it
abbrev pub take_inputs : Junction → Two ℤ → Junction
take_inputs j x = record {
  r = j.r;
  d = j.d;
  Na = j.Na;
  states = next_states j.d j.states x;
  last = x;
  waiting = none;
}

-- j with another delay, filter states and waiting move
abbrev pub with_delay : Junction → ℕ → Two (List ℤ) → Option Move → Junction
with_delay j d v w = record { r = j.r; d = d; Na = j.Na; states = v; last = j.last; waiting = w }

-- "then both filters switch as a voice's does": when the eliminators have taken Na inputs
unfoldable pub settle : Junction → Option Move → Junction
settle j none = j
settle j (some w) =
    cond (eqb w.taken j.Na) (with_delay j w.d w.states none) (with_delay j j.d j.states (some w))

unfoldable pub step : Junction → Two ℤ → Junction
step j x = settle (take_inputs j x) (feed_waiting j.waiting x)
