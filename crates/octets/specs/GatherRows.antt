-- Rows from another implementation: bytes, a start, and the word that is gathered, as facts about the
-- definition. It printed this text; proofs/GatherRows.antt proves them by computation. Assumes nothing.
use Rattle.std.specs.Prelude.{◌≡◌, [], ◌∷◌}
use Rattle.octets.specs.Octets.{gathered}

pub record GatherRows : Type 0 where
  -- eight bytes, and two that are left out
  pub first : gathered (239 ∷ 0 ∷ 18 ∷ 255 ∷ 52 ∷ 1 ∷ 128 ∷ 86 ∷ 254 ∷ 120 ∷ []) 0 ≡ 6232983211410063599
  -- one byte is missing
  pub seven : gathered (239 ∷ 0 ∷ 18 ∷ 255 ∷ 52 ∷ 1 ∷ 128 ∷ 86 ∷ 254 ∷ 120 ∷ []) 3 ≡ 34056644673484031
  -- a start at the end, and the greatest
  pub end : gathered (239 ∷ 0 ∷ 18 ∷ 255 ∷ 52 ∷ 1 ∷ 128 ∷ 86 ∷ 254 ∷ 120 ∷ []) 10 ≡ 0
  pub greatest : gathered (239 ∷ 0 ∷ 18 ∷ 255 ∷ 52 ∷ 1 ∷ 128 ∷ 86 ∷ 254 ∷ 120 ∷ []) 18446744073709551615 ≡ 0
  -- no byte at all
  pub empty : gathered [] 0 ≡ 0
