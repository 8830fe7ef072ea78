-- Events in order: document 02, L14. "A merged wait never exceeds the record's own", so each event of a merge stands
-- after the one before it, by its own wait at most. Definitions alone.
use Rattle.std.specs.Prelude.{List, [], ◌∷◌, ℕ, ◌+◌, ◌≤◌}
use Rattle.follow.specs.Follow.{value}
use Rattle.timeline.specs.Events.{Event}

abbrev pub at : Event → ℕ
at e = e.moment

abbrev pub wait : Event → ℕ
wait e = value e.own 0

-- from the moment p on: each event stands after the one before it, by its own wait at most
pub data Ready : ℕ → List Event → Type 0 where
  done : {p : ℕ} → Ready p []
  next : {p : ℕ} {e : Event} {es : List Event} → p ≤ at e → at e ≤ p + wait e → Ready (at e) es → Ready p (e ∷ es)
