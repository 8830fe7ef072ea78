-- The junction that 16 words of 32 bits are: every word means something, so that no list of words is refused here.
-- Which junctions are those of an opening or a call is the invariant (specs/Valid.antt). Definitions alone.
use Rattle.std.specs.Prelude.{cond, List, ℕ, ◌+◌, eqb, get_or, Option, Some, None}
use Rattle.signs.specs.Signs.{signed_of}
use Rattle.tube.specs.declared.filters.Filters.{Filters}
use Rattle.tube.specs.declared.Move.{Move}
use Rattle.tube.specs.declared.Junction.{Junction}
use Rattle.tube.specs.declared.memory.Four.{Four}

-- the filters are four words from i on: A1 and v1 over a, A1 and v1 over b
abbrev pub filters_from : List ℕ → ℕ → Filters
filters_from ws i = record {
  a = record { a1 = signed_of (get_or ws i 0); v1 = signed_of (get_or ws (i + 1) 0) };
  b = record { a1 = signed_of (get_or ws (i + 2) 0); v1 = signed_of (get_or ws (i + 3) 0) };
}

-- what waits: nothing where kind is 0, else a move
abbrev pub waiting_from : ℕ → ℕ → ℕ → Filters → Option Move
waiting_from kind d taken f = cond (eqb kind 0) None (Some (record { d = d; taken = taken; filters = f }))

unfoldable pub from_words : List ℕ → Junction
from_words ws = record {
  r = record { n = signed_of (get_or ws 0 0) };
  d = get_or ws 1 0;
  advance = get_or ws 2 0;
  filters = filters_from ws 3;
  last = record { a = record { n = signed_of (get_or ws 7 0) }; b = record { n = signed_of (get_or ws 8 0) } };
  waiting = waiting_from (get_or ws 9 0) (get_or ws 10 0) (get_or ws 11 0) (filters_from ws 12);
}

-- the filters that four words are, in the struct of the code
abbrev pub filters_of : Four → Filters
filters_of r = record {
  a = record { a1 = signed_of r.a1; v1 = signed_of r.av };
  b = record { a1 = signed_of r.b1; v1 = signed_of r.bv };
}
