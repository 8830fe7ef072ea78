-- What the calls of a record leave and return, in the code's structs.
-- Definitions alone. Assumes nothing.
use Rattle.std.specs.Prelude.{◌≡◌, List, ℤ}
use Rattle.rule.specs.Calls.{Call}
use Rattle.rule.specs.State.{from}
use Rattle.voice.specs.declared.Head.{Head}
use Rattle.voice.specs.Called.{Answer}
use Rattle.voice.specs.Struct.{state_of}
use Rattle.voice.specs.Valid.{Valid}
use Rattle.follow.specs.Follow.{result}

-- the calls cs on a head and the line l, which is left as k: the number that ends them, and the voice
pub record Does (h : Head) (l : List ℤ) (cs : List Call) (r : Answer) (k : List ℤ) : Type 0 where
  pub number : r.refusal ≡ result (state_of h l) cs
  pub state : state_of r.head k ≡ from (state_of h l) cs
  pub valid : Valid r.head k
