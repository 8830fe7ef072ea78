-- Rows from another implementation of document 01: bytes and what reading a record gives, as facts about the
-- definitions. It printed this text; proofs/RecordRows.antt proves them by computation. Assumes nothing.
use Rattle.std.specs.Prelude.{◌≡◌, List, [], ◌∷◌, ℕ}
use Rattle.record.specs.Record.{fields, rest}

-- bytes, and what it gives: number, bit map, wait, L, d, G, amplitude, count, seed; the part handed back
pub record Row : Type 0 where
  pub bytes : List ℕ
  pub fields : List ℕ
  pub rest : List ℕ

-- the definitions give this, row for row
abbrev pub row : Row → Row
row r = record { bytes = r.bytes; fields = fields r.bytes; rest = rest r.bytes }

abbrev pub given : List Row → List Row
given [] = []
given (r ∷ rs) = row r ∷ given rs

-- no byte; all bits, a byte missing and one more; bits 5, 6 and 7 alone; 14 before 15
abbrev pub limits : List Row
limits =
    record { bytes = []; fields = 14 ∷ 0 ∷ 0 ∷ 0 ∷ 0 ∷ 0 ∷ 0 ∷ 0 ∷ 0 ∷ []; rest = [] }
    ∷ record {
      bytes = 255 ∷ 1 ∷ 2 ∷ 3 ∷ 4 ∷ 5 ∷ 6 ∷ 7 ∷ 8 ∷ 9 ∷ 10 ∷ 11 ∷ 12 ∷ 13 ∷ [];
      fields = 14 ∷ 0 ∷ 0 ∷ 0 ∷ 0 ∷ 0 ∷ 0 ∷ 0 ∷ 0 ∷ [];
      rest = 255 ∷ 1 ∷ 2 ∷ 3 ∷ 4 ∷ 5 ∷ 6 ∷ 7 ∷ 8 ∷ 9 ∷ 10 ∷ 11 ∷ 12 ∷ 13 ∷ [];
    }
    ∷ record {
      bytes = 255 ∷ 1 ∷ 2 ∷ 3 ∷ 4 ∷ 5 ∷ 6 ∷ 7 ∷ 8 ∷ 9 ∷ 10 ∷ 11 ∷ 12 ∷ 13 ∷ 14 ∷ 255 ∷ [];
      fields = 0 ∷ 255 ∷ 513 ∷ 1027 ∷ 1541 ∷ 2055 ∷ 2569 ∷ 3083 ∷ 3597 ∷ [];
      rest = 255 ∷ [];
    }
    ∷ record {
      bytes = 32 ∷ 1 ∷ 2 ∷ [];
      fields = 15 ∷ 0 ∷ 0 ∷ 0 ∷ 0 ∷ 0 ∷ 0 ∷ 0 ∷ 0 ∷ [];
      rest = 32 ∷ 1 ∷ 2 ∷ [];
    }
    ∷ record {
      bytes = 64 ∷ 1 ∷ 2 ∷ [];
      fields = 15 ∷ 0 ∷ 0 ∷ 0 ∷ 0 ∷ 0 ∷ 0 ∷ 0 ∷ 0 ∷ [];
      rest = 64 ∷ 1 ∷ 2 ∷ [];
    }
    ∷ record {
      bytes = 129 ∷ 1 ∷ 2 ∷ [];
      fields = 15 ∷ 0 ∷ 0 ∷ 0 ∷ 0 ∷ 0 ∷ 0 ∷ 0 ∷ 0 ∷ [];
      rest = 129 ∷ 1 ∷ 2 ∷ [];
    }
    ∷ record {
      bytes = 96 ∷ 1 ∷ 2 ∷ 3 ∷ [];
      fields = 14 ∷ 0 ∷ 0 ∷ 0 ∷ 0 ∷ 0 ∷ 0 ∷ 0 ∷ 0 ∷ [];
      rest = 96 ∷ 1 ∷ 2 ∷ 3 ∷ [];
    }
    ∷ []

pub record RecordRows : Type 0 where
  pub limits : given limits ≡ limits
