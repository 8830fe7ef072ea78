-- What the parts of a run, and the run itself, return and leave: the calls of specs/Run.antt on the voice.
-- Definitions alone. Assumes nothing.
use Rattle.std.specs.Prelude.{◌≡◌, List, ℕ, ℤ, length}
use Rattle.refusal.specs.Numbers.{code_of}
use Rattle.samples.specs.Samples.{over}
use Rattle.rule.specs.State.{State, puts, fresh}
use Rattle.score.specs.declared.Played.{Played as Returned}
use Rattle.score.specs.Run.{Outcome, all_records, opening, run}

-- what a run returns: its number, 0 for success, its place, and how many samples it wrote
pub record Played : Type 0 where
  pub refusal : ℕ
  pub place : ℕ
  pub written : ℕ

abbrev pub returned_of : Returned → Played
returned_of r = record { refusal = code_of r.answer; place = r.place; written = r.written }

-- the outcome o of calls on the voice v, on a lent output that is left as after
pub record Plays (o : Outcome) (v : State) (output : List ℤ) (r : Played) (after : List ℤ) : Type 0 where
  pub number : r.refusal ≡ o.number
  pub place : r.place ≡ o.place
  pub count : r.written ≡ length (puts v o.calls)
  -- "Samples already written stand and are counted; the rest of the output is untouched"
  pub output_is : after ≡ over (puts v o.calls) output

-- the records s on the voice v
abbrev pub PlaysAll : List ℕ → State → List ℤ → Played → List ℤ → Type 0
PlaysAll s v output r after = Plays (all_records v s (length output)) v output r after

-- a whole score s
abbrev pub Runs : List ℕ → List ℤ → Played → List ℤ → Type 0
Runs s output r after = Plays (run s (length output)) (fresh (opening s)) output r after
