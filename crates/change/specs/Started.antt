-- A change that is to wait, as the one that keeps the head starts it.
-- Definitions alone. Assumes nothing.
use Rattle.std.specs.Prelude.{Result, Ok, Err}
use Rattle.refusal.specs.declared.Refusal.{Refusal}
use Rattle.refusal.specs.Numbers.{number_of}
use Rattle.voice.specs.declared.Kind.{Kind}
use Rattle.voice.specs.declared.Filter.{Filter}
use Rattle.voice.specs.declared.Head.{Head}
use Rattle.voice.specs.Called.{Answer}
use Rattle.voice.specs.Struct.{settled_of}

-- what it returns and leaves: the head is as it was where it is refused
abbrev pub started_of : Head → Kind → Result Filter Refusal → Answer
started_of h k (Ok e) = record { refusal = 0; head = settled_of h k e 0 }
started_of h k (Err r) = record { refusal = number_of r; head = h }
