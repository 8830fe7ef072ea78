-- Rows from another implementation of the papers: scores and what running them gives, as facts about the
-- definitions. It printed this text; proofs/ScoreRows.antt proves them by computation. Assumes nothing.
use Rattle.std.specs.Prelude.{◌≡◌, List, [], ◌∷◌, ℕ, ℤ, pos, negsuc}
use Rattle.rule.specs.State.{fresh, puts}
use Rattle.score.specs.Run.{Outcome, opening, run}

-- bytes, and the room of the output; number, place, and the samples written
pub record Row : Type 0 where
  pub bytes : List ℕ
  pub room : ℕ
  pub number : ℕ
  pub place : ℕ
  pub samples : List ℤ

-- the definitions give this, row for row
abbrev pub played : List ℕ → ℕ → Outcome → Row
played s room o = record {
  bytes = s;
  room = room;
  number = o.number;
  place = o.place;
  samples = puts (fresh (opening s)) o.calls;
}

abbrev pub given : List Row → List Row
given [] = []
given (r ∷ rs) = played r.bytes r.room (run r.bytes r.room) ∷ given rs

-- the header cut, and alone; 16 on both sides; 6; every field; an absent count
abbrev pub limits : List Row
limits =
    record {
      bytes = 1 ∷ 2 ∷ 3 ∷ 0 ∷ 160 ∷ 15 ∷ 96 ∷ [];
      room = 1;
      number = 14;
      place = 0;
      samples = [];
    }
    ∷ record {
      bytes =
          1 ∷ 2 ∷ 3 ∷ 0 ∷ 160 ∷ 15 ∷ 96 ∷ 234 ∷ 48 ∷ 9 ∷ 0 ∷ 2 ∷ 0 ∷ 1 ∷ 4 ∷ 0 ∷ 3 ∷ 2 ∷ 0 ∷ 0 ∷ 0
          ∷ [];
      room = 5;
      number = 16;
      place = 2;
      samples = pos 0 ∷ pos 0 ∷ pos 0 ∷ negsuc 1844 ∷ [];
    }
    ∷ record {
      bytes =
          1 ∷ 2 ∷ 3 ∷ 0 ∷ 160 ∷ 15 ∷ 96 ∷ 234 ∷ 48 ∷ 9 ∷ 0 ∷ 2 ∷ 0 ∷ 1 ∷ 4 ∷ 0 ∷ 3 ∷ 2 ∷ 0 ∷ 0 ∷ 0
          ∷ [];
      room = 6;
      number = 2;
      place = 2;
      samples = pos 0 ∷ pos 0 ∷ pos 0 ∷ negsuc 1844 ∷ negsuc 157207 ∷ negsuc 128744 ∷ [];
    }
    ∷ record {
      bytes =
          1 ∷ 2 ∷ 3 ∷ 0 ∷ 160 ∷ 15 ∷ 96 ∷ 234 ∷ 48 ∷ 9 ∷ 0 ∷ 2 ∷ 0 ∷ 1 ∷ 4 ∷ 0 ∷ 6 ∷ 2 ∷ 0 ∷ 0 ∷ 16
          ∷ 3 ∷ 1 ∷ 0 ∷ 2 ∷ 0 ∷ [];
      room = 9;
      number = 6;
      place = 3;
      samples = pos 0 ∷ pos 0 ∷ pos 0 ∷ negsuc 1844 ∷ negsuc 157207 ∷ [];
    }
    ∷ record {
      bytes = 1 ∷ 2 ∷ 3 ∷ 0 ∷ 160 ∷ 15 ∷ 96 ∷ 234 ∷ [];
      room = 3;
      number = 0;
      place = 0;
      samples = [];
    }
    ∷ record {
      bytes =
          1 ∷ 2 ∷ 3 ∷ 0 ∷ 160 ∷ 15 ∷ 96 ∷ 234 ∷ 48 ∷ 9 ∷ 0 ∷ 2 ∷ 0 ∷ 1 ∷ 4 ∷ 0 ∷ 123 ∷ 2 ∷ 0 ∷ 4
          ∷ 0 ∷ 1 ∷ 0 ∷ 255 ∷ 0 ∷ 1 ∷ 0 ∷ 3 ∷ 0 ∷ 1 ∷ 3 ∷ 0 ∷ [];
      room = 7;
      number = 16;
      place = 3;
      samples = pos 0 ∷ pos 0 ∷ pos 0 ∷ negsuc 1844 ∷ negsuc 157207 ∷ negsuc 128744 ∷ [];
    }
    ∷ record {
      bytes = 1 ∷ 0 ∷ 0 ∷ 8 ∷ 0 ∷ 16 ∷ 0 ∷ 0 ∷ 16 ∷ 1 ∷ 0 ∷ 130 ∷ 1 ∷ 0 ∷ 1 ∷ 104 ∷ 0 ∷ [];
      room = 104;
      number = 0;
      place = 3;
      samples =
          pos 0 ∷ pos 0 ∷ negsuc 17297 ∷ negsuc 14511 ∷ pos 20940 ∷ pos 11001 ∷ negsuc 7597
          ∷ pos 7982 ∷ negsuc 10241 ∷ pos 9177 ∷ pos 509 ∷ pos 5360 ∷ pos 19446 ∷ pos 15569
          ∷ pos 7459 ∷ pos 25238 ∷ negsuc 32325 ∷ pos 966 ∷ pos 13613 ∷ negsuc 12342 ∷ negsuc 7600
          ∷ pos 9481 ∷ pos 1628 ∷ pos 2733 ∷ negsuc 6533 ∷ negsuc 16569 ∷ negsuc 31954
          ∷ negsuc 15372 ∷ pos 31690 ∷ pos 7355 ∷ negsuc 3073 ∷ negsuc 24012 ∷ negsuc 10282
          ∷ negsuc 31316 ∷ negsuc 8464 ∷ negsuc 8070 ∷ pos 32192 ∷ pos 8211 ∷ pos 7179
          ∷ negsuc 21473 ∷ pos 31234 ∷ pos 4252 ∷ negsuc 18007 ∷ negsuc 27173 ∷ pos 6250
          ∷ pos 20690 ∷ negsuc 27378 ∷ negsuc 21991 ∷ negsuc 26528 ∷ negsuc 4459 ∷ negsuc 13484
          ∷ pos 1162 ∷ negsuc 23703 ∷ negsuc 22323 ∷ pos 26255 ∷ negsuc 3328 ∷ negsuc 30225
          ∷ pos 7520 ∷ negsuc 5328 ∷ negsuc 1165 ∷ negsuc 30145 ∷ negsuc 918 ∷ negsuc 22109
          ∷ pos 22884 ∷ negsuc 23085 ∷ negsuc 2907 ∷ negsuc 1987 ∷ negsuc 14739 ∷ negsuc 14125
          ∷ pos 19752 ∷ negsuc 18085 ∷ negsuc 24051 ∷ pos 18391 ∷ pos 24663 ∷ negsuc 11837
          ∷ negsuc 13112 ∷ negsuc 2063 ∷ pos 27671 ∷ pos 29518 ∷ negsuc 13709 ∷ pos 25831
          ∷ pos 27458 ∷ pos 24522 ∷ negsuc 54 ∷ negsuc 5689 ∷ negsuc 5027 ∷ negsuc 30691 ∷ pos 8003
          ∷ negsuc 20585 ∷ pos 6533 ∷ negsuc 21596 ∷ pos 6440 ∷ negsuc 10647 ∷ pos 26032
          ∷ negsuc 9245 ∷ pos 8929 ∷ pos 19607 ∷ negsuc 27884 ∷ pos 2143 ∷ negsuc 22127 ∷ pos 6220
          ∷ pos 1758 ∷ pos 0 ∷ pos 0 ∷ [];
    }
    ∷ []

pub record ScoreRows : Type 0 where
  pub limits : given limits ≡ limits
