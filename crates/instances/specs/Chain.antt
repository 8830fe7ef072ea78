-- Demand 3 of calls that a caller makes one after the other, at literal structs: two blocks, a loss, an instant change
-- and its count, a block. A statement alone: proofs/Chain.antt has it from crate list's `chained`.
use Rattle.std.specs.Prelude.{◌≡◌, List, [], ◌∷◌, ◌++◌, ℕ, ℤ, pos, negsuc, replicate}
use Rattle.rule.specs.Voice.{Tuning, tuning}
use Rattle.rule.specs.Calls.{Opening, Call, block, loss, instant}
use Rattle.rule.specs.History.{after, new}
use Rattle.rule.specs.Click.{Figure}
use Rattle.voice.specs.declared.Filter.{Filter}
use Rattle.voice.specs.declared.Head.{Head}
use Rattle.voice.specs.declared.Waiting.TheVariants.{Idle}
use Rattle.open.specs.Opened.{Opened, Opens}
use Rattle.list.specs.Chain.{Chain, Chained}

abbrev pub o : Opening
o = record { N = 1; L = 1; d = 4096; G = 65535; Na = 1 }

abbrev pub t : Tuning
t = tuning 1 1 2049

abbrev pub pre : List Call
pre = block (pos 1000000 ∷ negsuc 499999 ∷ []) 2 ∷ []

abbrev pub mid : List Call
mid = block (pos 0 ∷ []) 1 ∷ loss 60000 ∷ []

abbrev pub post : List Call
post = block (pos 0 ∷ []) 1 ∷ []

abbrev pub cs : List Call
cs = pre ++ (mid ++ instant t ∷ post)

-- ---- the structs: order 1 and length 1, with the delay d, A1 and v1; the loss, the last output, and the place
abbrev pub filter : ℕ → ℤ → ℤ → Filter
filter d A v = record {
  tuning = record { order = 1; length = 1; delay = d };
  coefficients = record { a1 = A; a2 = pos 0; a3 = pos 0 };
  state = record { v1 = v; v2 = pos 0; v3 = pos 0 };
}

abbrev pub head : Filter → ℕ → ℤ → ℕ → Head
head f G y at = record {
  filter = f;
  loss = G;
  advance = 1;
  last = record { n = y };
  waiting = Idle;
  pluck = record { amplitude = 0; left = 0; noise = 0 };
  at = at;
}

abbrev pub opened : Opened
opened = record {
  refusal = 0;
  voice = record { head = head (filter 4096 (pos 0) (pos 0)) 65535 (pos 0) 0; line = replicate 2112 (pos 0) };
}

abbrev pub end : Head
end = head (filter 2049 (pos 21831) (pos 666549)) 60000 (negsuc 277962) 4

abbrev pub line : List ℤ
line = pos 1000000 ∷ negsuc 499999 ∷ pos 499992 ∷ pos 330522 ∷ replicate 2108 (pos 0)

abbrev pub codes : List ℕ
codes = 0 ∷ 0 ∷ 0 ∷ 0 ∷ 0 ∷ []

-- the instant change was run over one sample
abbrev pub runs : List ℕ
runs = 0 ∷ 0 ∷ 0 ∷ 1 ∷ 0 ∷ []

abbrev pub samples : List ℤ
samples = pos 0 ∷ pos 0 ∷ pos 1000000 ∷ negsuc 277962 ∷ []

pub record Chaining : Type 0 where
  pub opens : Opens o opened
  pub chain : Chain opened.voice.head opened.voice.line cs codes runs samples end line
  pub chained : Chained o cs codes runs samples end line
  -- at step 3, before which the change took effect
  pub figure : Figure samples (after o cs).s t 1 3 3
  pub new_filter : new t (after o cs).s 3 ≡ negsuc 574112
