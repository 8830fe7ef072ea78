-- A request's counts: it lends at most 32,768 samples or bytes, and its list stands at the end of the line s.
-- Definitions alone.
use Rattle.std.specs.Prelude.{List, ℕ, ◌≤◌}
use Rattle.request.specs.declared.Request.{Request}
use Rattle.request.specs.Rest.{Rest}

pub record InLine (s : List ℕ) (r : Request) : Type 0 where
  pub places : r.places ≤ 32768
  pub list : Rest s r.list.now
