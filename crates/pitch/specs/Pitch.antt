-- From a note to a length and a delay, as document 01 has it under "Notes and effective length".
-- Definitions alone: specs/Theorems.antt states what holds of them. Assumes nothing.
use Rattle.std.specs.Prelude.{cond, List, [], ◌∷◌, ℕ, ◌+◌, ◌*◌, ◌%◌, ◌^◌, eqb, ℤ, pos, ◌-ℤ◌, ◌*ℤ◌, get_or, Result, Ok, Err}
use Rattle.integer.specs.Rounding.{floor, nearest}
use Rattle.integer.specs.Parts.{up, dn}
use Rattle.refusal.specs.declared.Refusal.{Refusal}
use Rattle.refusal.specs.Numbers.{number_of}
use Rattle.refusal.specs.Limits.{Limit, refusal}
use Rattle.refusal.specs.Orders.{lowest, order}
use Rattle.pitch.specs.declared.Parts.{Parts}

-- "a table of twelve whole numbers, entry k nearest to 2^24 × 2^(k/12)"
unfoldable pub octave : List ℕ
octave =
    16777216 ∷ 17774841 ∷ 18831788 ∷ 19951585 ∷ 21137968 ∷ 22394897
    ∷ 23726566 ∷ 25137421 ∷ 26632170 ∷ 28215802 ∷ 29893600 ∷ 31671166 ∷ []

-- "m − 69 = 12·o + k with k from 0 to 11": the octave o, and the place k in it
abbrev pub o : ℕ → ℤ
o m = floor (pos m -ℤ pos 69) 12

abbrev pub k : ℕ → ℕ
k m = (m + 3) % 12

-- "T is fs × 2^36/(440·t·2^o), nearest, half upward": 2^o stands below, or above where o is below zero
unfoldable pub period : ℕ → ℕ → ℤ
period fs m = nearest (pos (fs * 2 ^ 36 * 2 ^ dn (o m))) (440 * get_or octave (k m) 0 * 2 ^ up (o m))

-- "T − 2,048 = 4,096·L + d with d in the order's range": that L, and that d
unfoldable pub split_l : ℕ → ℤ → ℤ
split_l N T = floor ((T -ℤ pos 2048) -ℤ pos (lowest N)) 4096

unfoldable pub split_d : ℕ → ℤ → ℤ
split_d N T = (T -ℤ pos 2048) -ℤ pos 4096 *ℤ split_l N T

-- "11 rate outside 8,000 to 192,000"
abbrev pub rate : ℕ → Limit
rate fs = record { number = 11; low = 8000; value = fs; high = 192000 }

-- "12 note above 127"
abbrev pub note : ℕ → Limit
note m = record { number = 12; low = 0; value = m; high = 127 }

-- "13 L outside 1 to 2,048": an L below zero counts as 0
abbrev pub note_length : ℤ → Limit
note_length L = record { number = 13; low = 1; value = up L; high = 2048 }

-- "Note: 1, 11 .., 12 .., 13 .."
abbrev pub limits : ℕ → ℕ → ℕ → List Limit
limits N fs m = order N ∷ rate fs ∷ note m ∷ note_length (split_l N (period fs m)) ∷ []

-- what `note` returns: its number, 0 for success, and L and d
pub record Pitch : Type 0 where
  pub refusal : ℕ
  pub length : ℕ
  pub delay : ℕ

abbrev pub pitch_of : Result Parts Refusal → Pitch
pitch_of (Ok p) = record { refusal = 0; length = p.length; delay = p.delay }
pitch_of (Err r) = record { refusal = number_of r; length = 0; delay = 0 }

-- what comes back with a number, where T is the period: L and d where it is 0, else "L and d come back 0"
abbrev pub answer : ℕ → ℤ → ℕ → Pitch
answer N T number =
    cond (eqb number 0)
    (record { refusal = 0; length = up (split_l N T); delay = up (split_d N T) })
    (record { refusal = number; length = 0; delay = 0 })

-- what `note` returns
unfoldable pub pitch : ℕ → ℕ → ℕ → Pitch
pitch N fs m = answer N (period fs m) (refusal (limits N fs m))
