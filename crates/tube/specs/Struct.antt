-- The junction that the code's structs hold, in the terms of crate `junction`: `junction_of`. Definitions alone.
use Rattle.std.specs.Prelude.{List, [], ◌∷◌, ℤ}
use Rattle.std.specs.Prelude as Std
use Rattle.std.specs.Prelude.{Some, None, Result, Ok, Err}
use Rattle.std.proofs.Math.Option.{Option, none, some}
use Rattle.refusal.specs.declared.Refusal.{Refusal}
use Rattle.refusal.specs.Numbers.{number_of, code_of}
use Rattle.allpass.specs.Allpass.{inner}
use Rattle.junction.specs.Junction as Rule
use Rattle.junction.specs.Junction.{Two}
use Rattle.junction.specs.Calls as Calls
use Rattle.tube.specs.declared.filters.Filter.{Filter}
use Rattle.tube.specs.declared.filters.Filters.{Filters}
use Rattle.tube.specs.declared.filters.Pair.{Pair}
use Rattle.tube.specs.declared.Move.{Move}
use Rattle.tube.specs.declared.Junction.{Junction}
use Rattle.tube.specs.declared.open.Opened.{Opened}
use Rattle.tube.specs.declared.sample.Step.{Step}

abbrev pub pair_of : Pair → Two ℤ
pair_of x = record { a = x.a.n; b = x.b.n }

-- a state of order 1 is one number
abbrev pub states_of : Filters → Two (List ℤ)
states_of f = record { a = f.a.v1 ∷ []; b = f.b.v1 ∷ [] }

abbrev pub waiting_of : Std.Option Move → Option Rule.Move
waiting_of None = none
waiting_of (Some m) = some (record { d = m.d; taken = m.taken; states = states_of m.filters })

abbrev pub junction_of : Junction → Rule.Junction
junction_of j = record {
  r = j.r.n;
  d = j.d;
  Na = j.advance;
  states = states_of j.filters;
  last = pair_of j.last;
  waiting = waiting_of j.waiting;
}

-- what an opening returns; what a move and a sample return on j, which is left as it was where they are refused
abbrev pub opened_of : Opened → Calls.Answer
opened_of r = record { number = code_of r.answer; outputs = Calls.nothing; junction = junction_of r.junction }

abbrev pub moved : Junction → Result Junction Refusal → Calls.Answer
moved j (Ok k) = record { number = 0; outputs = Calls.nothing; junction = junction_of k }
moved j (Err r) = record { number = number_of r; outputs = Calls.nothing; junction = junction_of j }

abbrev pub sampled : Junction → Result Step Refusal → Calls.Answer
sampled j (Ok s) =
    record { number = 0; outputs = record { right = s.right; left = s.left }; junction = junction_of s.junction }
sampled j (Err r) = record { number = number_of r; outputs = Calls.nothing; junction = junction_of j }

-- ---- parts of a sample
-- a filter that has taken x
abbrev pub next_of : Filter → ℤ → Filter
next_of f x = record { a1 = f.a1; v1 = inner (f.a1 ∷ []) (f.v1 ∷ []) x }

abbrev pub next_filters : Filters → Pair → Filters
next_filters f x = record { a = next_of f.a x.a.n; b = next_of f.b x.b.n }

-- j after its filters took x and became f
abbrev pub take_of : Junction → Pair → Filters → Junction
take_of j x f = record { r = j.r; d = j.d; advance = j.advance; filters = f; last = x; waiting = None }
