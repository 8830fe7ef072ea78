-- Opening a junction and the calls on it, what each turns down, and what an accepted one does: document 02, L12.
-- Definitions alone.
use Rattle.std.specs.Prelude.{cond, List, [], ◌∷◌, ℕ, ◌+◌, eqb, ℤ, pos}
use Rattle.std.proofs.Math.Option.{Option, none, some}
use Rattle.integer.specs.Rounding.{M}
use Rattle.refusal.specs.Limits.{Limit, outside, refusal}
use Rattle.samples.specs.Samples.{loudest}
use Rattle.junction.specs.Junction.{Two, both, reflection, Move, Junction, rest_states, to_right, to_left}
use Rattle.junction.specs.Junction.{settle, step}

pub record Opening : Type 0 where
  pub left : ℕ
  pub right : ℕ
  pub d : ℕ
  pub Na : ℕ

-- what goes to the right, and to the left
pub record Outputs : Type 0 where
  pub right : ℤ
  pub left : ℤ

abbrev pub nothing : Outputs
nothing = record { right = pos 0; left = pos 0 }

-- "A move announces a new d"; a sample from the left and one from the right
pub data Call : Type 0 where
  move : ℕ → Call
  sample : Two ℤ → Call

-- ---- what each call turns down
-- "25 an area outside its limits", "areas from 1 to 65,535": as many of the two as are
abbrev pub area_outside : ℕ → ℕ
area_outside n = cond (outside n 1 65535) 1 0

abbrev pub area_limit : ℕ → ℕ → Limit
area_limit left right = record { number = 25; low = 0; value = area_outside left + area_outside right; high = 0 }

-- "d runs from 2,049 to 6,143"
abbrev pub delay_limit : ℕ → Limit
delay_limit d = record { number = 3; low = 2049; value = d; high = 6143 }

abbrev pub advance_limit : ℕ → Limit
advance_limit Na = record { number = 5; low = 0; value = Na; high = 64 }

-- "6 while one waits": as many as wait
abbrev pub waitings : Option Move → ℕ
waitings none = 0
waitings (some w) = 1

abbrev pub move_limit : Option Move → Limit
move_limit w = record { number = 6; low = 0; value = waitings w; high = 0 }

-- "for a sample 10": either of the two outside −M to M
abbrev pub sample_limit : Two ℤ → Limit
sample_limit x = record { number = 10; low = 0; value = loudest (x.a ∷ x.b ∷ []); high = M }

-- "at opening 25 an area outside its limits, then 3, 5"
abbrev pub open_limits : Opening → List Limit
open_limits o = area_limit o.left o.right ∷ delay_limit o.d ∷ advance_limit o.Na ∷ []

-- "for a move 3, then 6 while one waits; for a sample 10"
abbrev pub limits : Junction → Call → List Limit
limits j (move d) = delay_limit d ∷ move_limit j.waiting ∷ []
limits j (sample x) = sample_limit x ∷ []

-- the number that a call returns
unfoldable pub number : Junction → Call → ℕ
number j c = refusal (limits j c)

-- ---- what opening returns
abbrev pub junction_at_rest : ℤ → ℕ → ℕ → Junction
junction_at_rest r d Na =
    record { r = r; d = d; Na = Na; states = rest_states; last = both (λ s. pos 0); waiting = none }

-- "a refused opening gives areas 1 and 1, d 4,096, Na 0, at rest"
unfoldable pub open_junction : Opening → Junction
open_junction o =
    cond (eqb (refusal (open_limits o)) 0) (junction_at_rest (reflection o.left o.right) o.d o.Na)
    (junction_at_rest (reflection 1 1) 4096 0)

-- ---- what an accepted call does
-- with Na 0 a move is in force at once, from rest, and nothing waits
unfoldable pub accept : Junction → Call → Junction
accept j (move d) = settle j (some (record { d = d; taken = 0; states = rest_states }))
accept j (sample x) = step j x

-- "the junction is unchanged" where a call is refused
unfoldable pub call : Junction → Call → Junction
call j c = cond (eqb (number j c) 0) (accept j c) j

-- what an accepted call puts out: a move puts out nothing, which is 0
abbrev pub outputs : Junction → Call → Outputs
outputs j (move d) = nothing
outputs j (sample x) = record { right = to_right j x; left = to_left j x }

-- "the outputs are 0" where a sample is refused
unfoldable pub put : Junction → Call → Outputs
put j c = cond (eqb (number j c) 0) (outputs j c) nothing

-- ---- all that a call returns and leaves
pub record Answer : Type 0 where
  pub number : ℕ
  pub outputs : Outputs
  pub junction : Junction

unfoldable pub answer : Junction → Call → Answer
answer j c = record { number = number j c; outputs = put j c; junction = call j c }

-- of an opening, which puts out nothing
unfoldable pub open_answer : Opening → Answer
open_answer o = record { number = refusal (open_limits o); outputs = nothing; junction = open_junction o }
