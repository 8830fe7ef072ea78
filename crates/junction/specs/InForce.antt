-- "State is canonical: nothing of a move is left once it is in force": the whole junction, from the list of calls
-- alone. Statements alone: proofs/InForce.antt proves them for every opening and every list.
use Rattle.std.specs.Prelude.{◌≡◌, List, [], ◌∷◌, ◌++◌, ℕ, ◌≤◌, drop}
use Rattle.std.proofs.Math.Option.{none}
use Rattle.allpass.specs.Allpass.{rest, run}
use Rattle.junction.specs.Junction.{at, both, A, Junction}
use Rattle.junction.specs.Calls.{Call, move, Opening, number, open_junction}
use Rattle.junction.specs.History.{History, steps, call, after}
use Rattle.junction.specs.Click.{effect}
use Rattle.junction.specs.Outputs.{newest}

-- no move among the calls cs, made from h on, is accepted
abbrev pub NoMove : History → List Call → Type 0
NoMove h [] = Unit {0}
NoMove h (c ∷ cs) = ((d : ℕ) → c ≡ move d → number h.junction c ≡ 0 → ⊥) × NoMove (call h c) cs

-- the junction whose filters of d were at rest before step c and took the inputs since; nothing waits
abbrev pub in_force : Opening → ℕ → ℕ → History → Junction
in_force o d c h = record {
  r = (open_junction o).r;
  d = d;
  Na = (open_junction o).Na;
  states = both (λ s. run (A s d) (rest 1) (drop c (at s h.inputs)));
  last = both (λ s. newest (at s h.inputs));
  waiting = none;
}

-- a move to d, the last that was accepted, once it has taken effect
abbrev pub InForce : Opening → List Call → Type 0
InForce o cs =
    (pre post : List Call) (d : ℕ)
    → cs ≡ pre ++ move d ∷ post
    → number (after o pre).junction (move d) ≡ 0
    → NoMove (call (after o pre) (move d)) post
    → effect (after o pre) ≤ steps (after o cs)
    → (after o cs).junction ≡ in_force o d (steps (after o pre)) (after o cs)
