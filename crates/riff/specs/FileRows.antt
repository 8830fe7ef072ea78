-- Rows from another implementation: whole files, byte by byte, as facts about the definitions. It printed
-- this text; proofs/FileRows.antt proves them by computation. Assumes nothing.
use Rattle.std.specs.Prelude.{◌≡◌, [], ◌∷◌, pos, negsuc}
use Rattle.riff.specs.Format.{file}

pub record FileRows : Type 0 where
  -- a pad byte, which counts in the RIFF size and not in the data size
  pub odd :
      file 44100 (negsuc 17297 ∷ [])
      ≡
      82 ∷ 73 ∷ 70 ∷ 70 ∷ 40 ∷ 0 ∷ 0 ∷ 0 ∷ 87 ∷ 65 ∷ 86 ∷ 69 ∷ 102 ∷ 109 ∷ 116 ∷ 32 ∷ 16 ∷ 0 ∷ 0
      ∷ 0 ∷ 1 ∷ 0 ∷ 1 ∷ 0 ∷ 68 ∷ 172 ∷ 0 ∷ 0 ∷ 204 ∷ 4 ∷ 2 ∷ 0 ∷ 3 ∷ 0 ∷ 24 ∷ 0 ∷ 100 ∷ 97 ∷ 116
      ∷ 97 ∷ 3 ∷ 0 ∷ 0 ∷ 0 ∷ 110 ∷ 188 ∷ 255 ∷ 0 ∷ []
  -- no pad byte; the greatest sample and the lowest
  pub even :
      file 8000 (pos 8388607 ∷ negsuc 8388606 ∷ [])
      ≡
      82 ∷ 73 ∷ 70 ∷ 70 ∷ 42 ∷ 0 ∷ 0 ∷ 0 ∷ 87 ∷ 65 ∷ 86 ∷ 69 ∷ 102 ∷ 109 ∷ 116 ∷ 32 ∷ 16 ∷ 0 ∷ 0
      ∷ 0 ∷ 1 ∷ 0 ∷ 1 ∷ 0 ∷ 64 ∷ 31 ∷ 0 ∷ 0 ∷ 192 ∷ 93 ∷ 0 ∷ 0 ∷ 3 ∷ 0 ∷ 24 ∷ 0 ∷ 100 ∷ 97 ∷ 116
      ∷ 97 ∷ 6 ∷ 0 ∷ 0 ∷ 0 ∷ 255 ∷ 255 ∷ 127 ∷ 1 ∷ 0 ∷ 128 ∷ []
