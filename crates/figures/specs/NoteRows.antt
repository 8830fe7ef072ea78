-- Rows from another implementation of document 01: notes and what comes back for them, as facts about the
-- definitions. It printed this text; proofs/NoteRows.antt proves them by computation. Assumes nothing.
use Rattle.std.specs.Prelude.{◌≡◌, List, [], ◌∷◌, ℕ}
use Rattle.pitch.specs.Pitch.{pitch}

-- what is asked, and what it gives
pub record Row : Type 0 where
  pub N : ℕ
  pub fs : ℕ
  pub m : ℕ
  pub number : ℕ
  pub L : ℕ
  pub d : ℕ

-- the definitions give this, row for row
abbrev pub row : Row → Row
row r =
    let p = pitch r.N r.fs r.m in
    record { N = r.N; fs = r.fs; m = r.m; number = p.refusal; L = p.length; d = p.delay }

abbrev pub given : List Row → List Row
given [] = []
given (r ∷ rs) = row r ∷ given rs

-- both sides of each limit, and a note of order 3
abbrev pub limits : List Row
limits =
    record { N = 3; fs = 44100; m = 69; number = 0; L = 97; d = 11171 }
    ∷ record { N = 1; fs = 7999; m = 60; number = 11; L = 0; d = 0 }
    ∷ record { N = 1; fs = 8000; m = 60; number = 0; L = 29; d = 4416 }
    ∷ record { N = 1; fs = 192001; m = 60; number = 11; L = 0; d = 0 }
    ∷ record { N = 1; fs = 192000; m = 127; number = 0; L = 14; d = 3303 }
    ∷ record { N = 1; fs = 192000; m = 128; number = 12; L = 0; d = 0 }
    ∷ record { N = 1; fs = 29863; m = 10; number = 0; L = 2048; d = 5971 }
    ∷ record { N = 1; fs = 29864; m = 10; number = 13; L = 0; d = 0 }
    ∷ record { N = 1; fs = 16745; m = 120; number = 13; L = 0; d = 0 }
    ∷ record { N = 1; fs = 16746; m = 120; number = 0; L = 1; d = 2049 }
    ∷ []

pub record NoteRows : Type 0 where
  pub limits : given limits ≡ limits
