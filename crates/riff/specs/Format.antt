-- A recording as a file: "RIFF WAVE, PCM, one channel, 24 bits", byte by byte from a rate and samples.
-- Document 02, L1. Definitions alone. Assumes nothing.
use Rattle.std.specs.Prelude.{List, [], ◌∷◌, ◌++◌, ℕ, ◌+◌, ◌*◌, ◌%◌, ℤ, length, replicate}
use Rattle.octets.specs.Octets.{bytes, stored}

-- ---- sizes of a file of n samples, in bytes
-- "24 bits": three bytes a sample
abbrev pub data_size : ℕ → ℕ
data_size n = 3 * n

-- "then one zero byte if the data length is odd"
abbrev pub padding : ℕ → ℕ
padding n = data_size n % 2

-- "that byte counts in the RIFF size and not in the data size": what follows the RIFF size itself
abbrev pub riff_size : ℕ → ℕ
riff_size n = 36 + data_size n + padding n

-- the whole file
abbrev pub file_size : ℕ → ℕ
file_size n = 44 + data_size n + padding n

-- ---- "the 44-byte header"
-- "The file opens with the four letters RIFF"
abbrev pub riff : ℕ → List ℕ
riff size =
    (82 ∷ 73 ∷ 70 ∷ 70 ∷ [])  -- the letters `RIFF`
    ++ bytes 4 size  -- the RIFF size
    ++ (87 ∷ 65 ∷ 86 ∷ 69 ∷ [])  -- the letters `WAVE`

abbrev pub format : ℕ → List ℕ
format fs =
    (102 ∷ 109 ∷ 116 ∷ 32 ∷ [])  -- the letters `fmt `
    ++ bytes 4 16  -- the size of what follows up to the data
    ++ bytes 2 1  -- "PCM"
    ++ bytes 2 1  -- "one channel"
    ++ bytes 4 fs  -- the rate, in samples a second
    ++ bytes 4 (3 * fs)  -- the byte rate, in bytes a second
    ++ bytes 2 3  -- bytes a sample
    ++ bytes 2 24  -- "24 bits"

abbrev pub data_head : ℕ → List ℕ
data_head size =
    (100 ∷ 97 ∷ 116 ∷ 97 ∷ [])  -- the letters `data`
    ++ bytes 4 size  -- the data size

unfoldable pub header : ℕ → ℕ → List ℕ
header fs n = riff (riff_size n) ++ format fs ++ data_head (data_size n)

-- ---- "then the data, then one zero byte if the data length is odd"
unfoldable pub file : ℕ → List ℤ → List ℕ
file fs xs = header fs (length xs) ++ stored 3 xs ++ replicate (padding (length xs)) 0
