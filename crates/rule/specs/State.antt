-- A voice with its line, as contracts speak of it: the newest 2,112 samples, newest first; what each call
-- leaves and puts out. Definitions alone. Assumes nothing.
use Rattle.std.specs.Prelude.{cond, List, [], ◌∷◌, ◌++◌, ℕ, ◌-◌, eqb, ℤ, pos, take, get_or, replicate}
use Rattle.rule.specs.Voice.{Voice, output, written, stepped}
use Rattle.rule.specs.Calls.{Call, Opening, number, count, done, inputs, opened}

pub record State : Type 0 where
  pub voice : Voice
  pub line : List ℤ

-- s(n − k), for k from 1 to 2,112
abbrev pub back : List ℤ → ℕ → ℤ
back l k = get_or l (k - 1) (pos 0)

-- "4. s(n) goes into the line"
unfoldable pub step : State → ℤ → State
step v x = record {
  voice = stepped v.voice (back v.line);
  line = written v.voice (back v.line) x ∷ take 2111 v.line;
}

-- y(n)
unfoldable pub sounds : State → ℤ
sounds v = output v.voice (back v.line)

abbrev pub block_after : State → List ℤ → State
block_after v [] = v
block_after v (x ∷ xs) = block_after (step v x) xs

abbrev pub block_out : State → List ℤ → List ℤ
block_out v [] = []
block_out v (x ∷ xs) = sounds v ∷ block_out (step v x) xs

-- what a call does at once
abbrev pub told : State → Call → State
told v c = record { voice = done v.voice (back v.line) c; line = v.line }

-- what a call leaves: a refused one leaves the voice as it was
unfoldable pub call : State → Call → State
call v c = cond (eqb (number v.voice c) 0) (block_after (told v c) (inputs c)) v

-- what it puts out
unfoldable pub put : State → Call → List ℤ
put v c = cond (eqb (number v.voice c) 0) (block_out (told v c) (inputs c)) []

-- "a line of 2,112 samples, all zero when opened"
unfoldable pub silence : List ℤ
silence = replicate 2112 (pos 0)

abbrev pub fresh : Opening → State
fresh o = record { voice = opened o; line = silence }

-- ---- a list of calls, each on the voice that the call before it left
abbrev pub from : State → List Call → State
from v [] = v
from v (c ∷ cs) = from (call v c) cs

abbrev pub puts : State → List Call → List ℤ
puts v [] = []
puts v (c ∷ cs) = put v c ++ puts (call v c) cs

-- the numbers that the calls return, and the counts of the instant changes among them
abbrev pub numbers : State → List Call → List ℕ
numbers v [] = []
numbers v (c ∷ cs) = number v.voice c ∷ numbers (call v c) cs

abbrev pub counts : State → List Call → List ℕ
counts v [] = []
counts v (c ∷ cs) = count v.voice (back v.line) c ∷ counts (call v c) cs
