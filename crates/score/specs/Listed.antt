-- "A score run opens a voice of its own; what its records do to it, their waits as blocks, is such a list" of
-- calls as demand 3 is about. A statement alone: proofs/Calls.antt proves it of every run. Assumes nothing.
use Rattle.std.specs.Prelude.{◌≡◌, List, ℕ, ℤ, length, take, drop}
use Rattle.rule.specs.Calls.{Call}
use Rattle.rule.specs.State.{fresh, puts}
use Rattle.rule.specs.Click.{Click}
use Rattle.rule.specs.OwnFigure.{OwnClick}
use Rattle.score.specs.Played.{Played}
use Rattle.score.specs.Run.{opening, run}

-- the run of the score s over a lent output, which returned r and left the output as after
pub record Listed (s : List ℕ) (output : List ℤ) (r : Played) (after : List ℤ) : Type 0 where
  -- the calls that its records made, each on the voice that the one before it left
  pub calls : List Call
  pub made : calls ≡ (run s (length output)).calls
  -- the samples that it counts are those that the calls put out, and "the rest of the output is untouched"
  pub samples : take r.written after ≡ puts (fresh (opening s)) calls
  pub untouched : drop r.written after ≡ drop r.written output
  pub click : Click (opening s) calls
  -- with the coefficients of each tuning that comes in
  pub own_click : OwnClick (opening s) calls
