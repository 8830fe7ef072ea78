-- The merge of small scores, byte by byte: the definitions at literals.
-- Statements alone: proofs/Instances.antt has them by computation.
use Rattle.std.specs.Prelude.{◌≡◌, List, [], ◌∷◌, ◌++◌, ℕ}
use Rattle.timeline.specs.Merged.{merge_of}

-- order 1, Na 4, L 50, d 4,096, G 65,000
abbrev pub header : List ℕ
header = 1 ∷ 4 ∷ 50 ∷ 0 ∷ 0 ∷ 16 ∷ 232 ∷ 253 ∷ []

-- the first changes L instantly after 5 samples; the second plucks after 5, and after 3 more changes d alone: its
-- own L is 50 there
abbrev pub first : List ℕ
first = header ++ (131 ∷ 5 ∷ 0 ∷ 60 ∷ 0 ∷ [])

abbrev pub second : List ℕ
second = header ++ (17 ∷ 5 ∷ 0 ∷ 200 ∷ 0 ∷ 5 ∷ 3 ∷ 0 ∷ 160 ∷ 15 ∷ [])

-- records without a field, one of them with a wait of 0; a pluck with its seed and one without; at 6 an instant
-- change of the first, and behind it a loss and a pluck, and an announced change that takes its own score's L
abbrev pub third : List ℕ
third = header ++ (0 ∷ 81 ∷ 2 ∷ 0 ∷ 200 ∷ 0 ∷ 7 ∷ 0 ∷ 131 ∷ 4 ∷ 0 ∷ 60 ∷ 0 ∷ [])

abbrev pub fourth : List ℕ
fourth = header ++ (1 ∷ 0 ∷ 0 ∷ 57 ∷ 6 ∷ 0 ∷ 232 ∷ 3 ∷ 10 ∷ 0 ∷ 5 ∷ 0 ∷ 4 ∷ 160 ∷ 15 ∷ [])

pub record Instances : Type 0 where
  -- at 5 the first's; then the pluck with a wait of 0 and its count; then d with the second score's L
  pub one : merge_of first second
      ≡ header ++ (135 ∷ 5 ∷ 0 ∷ 60 ∷ 0 ∷ 0 ∷ 16 ∷ 48 ∷ 200 ∷ 0 ∷ 100 ∷ 0 ∷ 7 ∷ 3 ∷ 0 ∷ 50 ∷ 0 ∷ 160 ∷ 15 ∷ [])
  pub two : merge_of third fourth
      ≡ header ++ (0 ∷ 0 ∷ 113 ∷ 2 ∷ 0 ∷ 200 ∷ 0 ∷ 100 ∷ 0 ∷ 7 ∷ 0 ∷ 135 ∷ 4 ∷ 0 ∷ 60 ∷ 0 ∷ 0 ∷ 16 ∷ 56 ∷ 232 ∷ 3
      ∷ 10 ∷ 0 ∷ 5 ∷ 0 ∷ 6 ∷ 50 ∷ 0 ∷ 160 ∷ 15 ∷ [])
