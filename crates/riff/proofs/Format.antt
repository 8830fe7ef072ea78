-- The file's lengths, the places of its fields and its data, and that it holds bytes alone.
-- Assumes nothing.
use mathlib.Core.Path.{◌≡◌, refl, ap, ◌∙◌}
use mathlib.Core.List.{List, [], ◌∷◌, ◌++◌, append_assoc}
use Prim.Native.Nat.{ℕ, ◌+◌, ◌*◌, ◌/◌, ◌^◌, ◌<◌}
use native.Mathlib.Omega.{arith}
use lib.IntN.{ℤ}
use lib.ListN.{length, take, drop, replicate, length-append, length-replicate}
use lib.Seq.{take_at, drop_at}
use Rattle.octets.specs.Octets.{bytes, stored}
use Rattle.octets.specs.Theorems.{Bytes, AllFit}
use Rattle.octets.proofs.Laws.{append-bytes, zero-bytes}
use Rattle.octets.proofs.Fields.{Field, fields-bytes}
use Rattle.octets.proofs.Lists.{stored-length, stored_bytes}
use Rattle.octets.proofs.Theorems.{number_back, loaded_back}
use Rattle.riff.specs.Format.{data_size, padding, file_size, riff_size, riff, format, data_head, header, file}
use Rattle.riff.specs.Held.{word, rate_of, count_of, held_in}

abbrev pub field : ℕ → ℕ → Field
field w n = record { width = w; value = n }

-- ---- the header
pub header-length : (fs n : ℕ) → length (header fs n) ≡ 44
unfolding header bytes
header-length fs n = refl

-- its fields: the letters of a name are a number too
abbrev pub riff_fields : ℕ → List Field
riff_fields size = field 4 0x4646_4952 ∷ field 4 size ∷ field 4 0x4556_4157 ∷ []

abbrev pub format_fields : ℕ → List Field
format_fields fs =
    field 4 0x2074_6D66
    ∷ field 4 16
    ∷ field 2 1
    ∷ field 2 1
    ∷ field 4 fs
    ∷ field 4 (3 * fs)
    ∷ field 2 3
    ∷ field 2 24
    ∷ []

abbrev pub data_fields : ℕ → List Field
data_fields size = field 4 0x6174_6164 ∷ field 4 size ∷ []

header-bytes : (fs n : ℕ) → Bytes (header fs n)
unfolding header bytes
header-bytes fs n =
    let r = riff (riff_size n) in
    let d = data_head (data_size n) in
    append-bytes (r ++ format fs) d
    (append-bytes r (format fs) (fields-bytes (riff_fields (riff_size n))) (fields-bytes (format_fields fs)))
    (fields-bytes (data_fields (data_size n)))

-- ---- the whole file
module _ (fs : ℕ) (xs : List ℤ) where
  abbrev n : ℕ
  n = length xs

  abbrev zeros : List ℕ
  zeros = replicate (padding n) 0

  front_length : length (header fs n ++ stored 3 xs) ≡ 44 + 3 * n
  front_length =
      length-append (header fs n) (stored 3 xs) ∙ omega (arith, header-length fs n, stored-length 3 xs)

  pub file-length : length (file fs xs) ≡ file_size n
  unfolding file
  file-length =
      length-append (header fs n ++ stored 3 xs) zeros
      ∙ omega (arith, front_length, length-replicate {A = ℕ} (padding n) 0)

  -- the data and the padding behind the header, and the padding behind the data
  apart : file fs xs ≡ header fs n ++ (stored 3 xs ++ zeros)
  unfolding file
  apart = append_assoc (header fs n) (stored 3 xs) zeros

  pub file-head : take 44 (file fs xs) ≡ header fs n
  file-head = rw apart (take_at (header fs n) (stored 3 xs ++ zeros) 44 (header-length fs n))

  pub file-data : drop 44 (file fs xs) ≡ stored 3 xs ++ zeros
  file-data = rw apart (drop_at (header fs n) (stored 3 xs ++ zeros) 44 (header-length fs n))

  pub file-padding : drop (44 + 3 * n) (file fs xs) ≡ zeros
  unfolding file
  file-padding = drop_at (header fs n ++ stored 3 xs) zeros (44 + 3 * n) front_length

  -- ---- its fields
  pub rate-field : fs < 2 ^ 32 → rate_of (file fs xs) ≡ fs
  unfolding file header bytes
  rate-field h = number_back 4 fs h

  size-field : data_size n < 2 ^ 32 → word (file fs xs) 40 ≡ data_size n
  unfolding file header bytes
  size-field h = number_back 4 (data_size n) h

  pub count-field : data_size n < 2 ^ 32 → count_of (file fs xs) ≡ n
  count-field h = ap (λ (k : ℕ). k / 3) (size-field h) ∙ omega arith

  -- ---- its data
  pub held : data_size n < 2 ^ 32 → AllFit 3 xs → held_in (file fs xs) ≡ xs
  unfolding held_in
  held h f = rw (count-field h, file-data) (loaded_back 3 (omega arith) zeros f)

  pub file-bytes : Bytes (file fs xs)
  unfolding file
  file-bytes =
      append-bytes (header fs n ++ stored 3 xs) zeros
      (append-bytes (header fs n) (stored 3 xs) (header-bytes fs n) (stored_bytes 3 xs))
      (zero-bytes (padding n))
