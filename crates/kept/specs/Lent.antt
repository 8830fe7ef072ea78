-- What a call on a voice in lent memory returned and left, as what the call by value returns: the contracts
-- of crates open, change and block then speak of `head_of` of the words before and after.
use Rattle.std.specs.Prelude.{List, ℕ, ℤ}
use Rattle.voice.specs.Called.{Answer}
use Rattle.open.specs.Opened.{Opened}
use Rattle.packed.specs.Words.{head_of}

-- the number, and the head that the words are
abbrev pub answer_of : ℕ → List ℕ → Answer
answer_of r ws = record { refusal = r; head = head_of ws }

-- the number, and the voice that the words and the line are
abbrev pub opened_of : ℕ → List ℕ → List ℤ → Opened
opened_of r ws l = record { refusal = r; voice = record { head = head_of ws; line = l } }
