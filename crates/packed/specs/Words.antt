-- The head that 27 words of 32 bits are. Every 27 words are some head: which heads are those of a voice is
-- the voice's invariant, `Fit` and `Valid` of crate voice.
use Rattle.std.specs.Prelude.{cond, List, ℕ, ◌+◌, eqb, get_or}
use Rattle.signs.specs.Signs.{signed_of}
use Rattle.voice.specs.declared.Filter.{Filter}
use Rattle.voice.specs.declared.Waiting.{Waiting}
use Rattle.voice.specs.declared.Kind.TheVariants.{Announced, Asked}
use Rattle.voice.specs.declared.Waiting.TheVariants.{Idle, Prepared}
use Rattle.voice.specs.declared.Head.{Head}

-- a filter is nine words from i on
abbrev pub filter_from : List ℕ → ℕ → Filter
filter_from ws i = record {
  tuning = record { order = get_or ws i 0; length = get_or ws (i + 1) 0; delay = get_or ws (i + 2) 0 };
  coefficients = record {
    a1 = signed_of (get_or ws (i + 3) 0);
    a2 = signed_of (get_or ws (i + 4) 0);
    a3 = signed_of (get_or ws (i + 5) 0);
  };
  state = record {
    v1 = signed_of (get_or ws (i + 6) 0);
    v2 = signed_of (get_or ws (i + 7) 0);
    v3 = signed_of (get_or ws (i + 8) 0);
  };
}

-- what waits: 0 nothing, 1 an announced change, else an asked one
abbrev pub waiting_from : ℕ → Filter → ℕ → Waiting
waiting_from kind e taken =
    cond (eqb kind 0) Idle (cond (eqb kind 1) (Prepared Announced e taken) (Prepared Asked e taken))

unfoldable pub head_of : List ℕ → Head
head_of ws = record {
  filter = filter_from ws 0;
  loss = get_or ws 9 0;
  advance = get_or ws 10 0;
  last = record { n = signed_of (get_or ws 11 0) };
  waiting = waiting_from (get_or ws 12 0) (filter_from ws 13) (get_or ws 22 0);
  pluck = record { amplitude = get_or ws 23 0; left = get_or ws 24 0; noise = get_or ws 25 0 };
  at = get_or ws 26 0;
}
