-- What an instant change returns and leaves, and how many samples its eliminator was run over.
-- Definitions alone. Assumes nothing.
use Rattle.std.specs.Prelude.{ℕ, Result, Ok, Err}
use Rattle.refusal.specs.declared.Refusal.{Refusal}
use Rattle.refusal.specs.Numbers.{number_of}
use Rattle.voice.specs.declared.Head.{Head}
use Rattle.voice.specs.Called.{Answer}
use Rattle.change.specs.declared.Changed.{Changed}

-- the head is as it was where it is refused
abbrev pub changed_of : Head → Result Changed Refusal → Answer
changed_of h (Ok c) = record { refusal = 0; head = c.head }
changed_of h (Err r) = record { refusal = number_of r; head = h }

-- none where it is refused
abbrev pub count_of : Result Changed Refusal → ℕ
count_of (Ok c) = c.count
count_of (Err r) = 0
