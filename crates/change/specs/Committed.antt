-- A head whose waiting change is put in force.
-- Definitions alone. Assumes nothing.
use Rattle.std.specs.Prelude.{Result, Ok, Err}
use Rattle.refusal.specs.declared.Refusal.{Refusal}
use Rattle.refusal.specs.Numbers.{number_of}
use Rattle.voice.specs.declared.Waiting.{Waiting}
use Rattle.voice.specs.declared.Waiting.TheVariants.{Idle, Prepared}
use Rattle.voice.specs.declared.Head.{Head}
use Rattle.voice.specs.Called.{Answer}
use Rattle.voice.specs.Struct.{with_of}

-- L3: "committing switches before the next sample"
abbrev pub committed_of : Head → Waiting → Head
committed_of h Idle = h
committed_of h (Prepared k e n) = with_of h e Idle

-- what a commit returns and leaves that is refused by r, or by nothing: the head is as it was where it is refused
abbrev pub committing_of : {A : Type 0} → Head → Result A Refusal → Answer
committing_of h (Ok x) = record { refusal = 0; head = committed_of h h.waiting }
committing_of h (Err r) = record { refusal = number_of r; head = h }
