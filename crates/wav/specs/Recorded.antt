-- What reading a recording turns down, returns, and leaves in the lent slice: document 02, L1.
-- Definitions alone. Assumes nothing.
use Rattle.std.specs.Prelude.{Bool, true, false, cond, ◌&&◌, List, [], ◌∷◌, ◌++◌, ℕ, ◌*◌, ◌^◌, eqb, ltb, ℤ, length, drop, Result, Ok, Err}
use Rattle.refusal.specs.declared.Refusal.{Refusal}
use Rattle.refusal.specs.Numbers.{number_of}
use Rattle.refusal.specs.Limits.{Limit, refusal}
use Rattle.riff.specs.Format.{riff_size, file}
use Rattle.riff.specs.Held.{rate_of, count_of, held_in, samples_of}
use Rattle.wav.specs.declared.Recorded.{Recorded as Held}
use Rattle.wav.specs.Written.{rated, roomy, given}

-- ---- what reading turns down
abbrev pub same : List ℕ → List ℕ → Bool
same [] [] = true
same [] (b ∷ t) = false
same (a ∷ s) [] = false
same (a ∷ s) (b ∷ t) = eqb a b && same s t

-- the bytes are the file of that rate and those numbers, and its byte rate and its RIFF size fit their fields
unfoldable pub is_file : List ℕ → Bool
is_file s =
    ltb (3 * rate_of s) (2 ^ 32) && (ltb (riff_size (count_of s)) (2 ^ 32) && same s (file (rate_of s) (held_in s)))

-- "19 a file with other header values, a data size that 3 does not divide, another length, or a pad byte
-- other than zero"
abbrev pub formed : List ℕ → Limit
formed s = record { number = 19; low = 0; value = cond (is_file s) 0 1; high = 0 }

-- "reading tests 19, 17, 18"
abbrev pub read_limits : List ℕ → ℕ → List Limit
read_limits s room = formed s ∷ rated (rate_of s) ∷ roomy (count_of s) (count_of s) room ∷ []

unfoldable pub reading_number : List ℕ → ℕ → ℕ
reading_number s room = refusal (read_limits s room)

-- ---- what it gives
-- what reading returns: its number, 0 for success, the rate, and the count of samples
pub record Recorded : Type 0 where
  pub refusal : ℕ
  pub rate : ℕ
  pub count : ℕ

abbrev pub read_answer : Result Held Refusal → Recorded
read_answer (Ok h) = record { refusal = 0; rate = h.rate; count = h.count }
read_answer (Err r) = record { refusal = number_of r; rate = 0; count = 0 }

-- "reading [returns] the rate and the count of samples"; "A refusal .. returns 0 for these"
unfoldable pub recorded : List ℕ → ℕ → Recorded
recorded s room =
    let n = reading_number s room in
    record { refusal = n; rate = given n (rate_of s); count = given n (count_of s) }

-- the lent slice afterwards, which was old: "A refusal touches no slice"; "success touches nothing past what
-- it writes"
unfoldable pub filled : List ℕ → List ℤ → List ℤ
filled s old = cond (eqb (reading_number s (length old)) 0) (samples_of s ++ drop (count_of s) old) old
