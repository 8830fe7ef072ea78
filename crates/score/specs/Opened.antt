-- What the header of a score is read as: the opening that its 8 bytes hold, or 14. Definitions alone.
use Rattle.std.specs.Prelude.{◌≡◌, List, ℕ, ◌≤◌, ◌<◌, length, Result, Ok, Err}
use Rattle.refusal.specs.declared.Refusal.{Refusal}
use Rattle.refusal.specs.Numbers.{number_of}
use Rattle.open.specs.declared.Opening.{Opening}
use Rattle.open.specs.Opened.{opening_of}
use Rattle.score.specs.Run.{opening}

abbrev pub Reads : List ℕ → Result Opening Refusal → Type 0
Reads s (Ok o) = (8 ≤ length s) × (opening_of o ≡ opening s)
Reads s (Err r) = (length s < 8) × (number_of r ≡ 14)
