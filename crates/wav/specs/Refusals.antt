-- Demand 1 of writing and reading: each number under its condition and under no other, in ≤ and <.
-- Statements alone: proofs/Results.antt proves `Refuses`. Assumes nothing.
use Rattle.std.specs.Prelude.{◌≡◌, ◌↔◌, List, ℕ, ◌*◌, ◌^◌, ◌≤◌, ◌<◌, ℤ, length, take, drop}
use Rattle.integer.specs.Rounding.{M}
use Rattle.allpass.specs.Bounds.{Within}
use Rattle.refusal.specs.Limits.{Between}
use Rattle.octets.specs.Theorems.{AllFit}
use Rattle.riff.specs.Format.{riff_size, file_size, file}
use Rattle.riff.specs.Held.{rate_of, count_of, samples_of}
use Rattle.wav.specs.Written.{written, left}
use Rattle.wav.specs.Recorded.{recorded, filled}

-- ---- the conditions
-- not "17 rate outside 8,000 to 192,000"
abbrev pub Rated : ℕ → Type 0
Rated fs = Between 8000 fs 192000

-- not "18 more than 1,000,000 samples, or a lent slice too short"
pub record Room (n needed room : ℕ) : Type 0 where
  pub few : n ≤ 1000000
  pub long : needed ≤ room

-- not 19: the bytes are the form of the paper for some rate and some numbers of 24 bits, and what its fields
-- hold fits them
pub record IsFile (s : List ℕ) : Type 0 where
  pub fs : ℕ
  pub xs : List ℤ
  pub byte_rate : 3 * fs < 2 ^ 32
  pub riff_size_fits : riff_size (length xs) < 2 ^ 32
  pub numbers : AllFit 3 xs
  pub whole : s ≡ file fs xs

-- ---- the number n of each: "Writing tests 17, 18, 10; reading tests 19, 17, 18"
pub record WriteReturns (fs : ℕ) (xs : List ℤ) (room n : ℕ) : Type 0 where
  pub rate : (n ≡ 17) ↔ (Rated fs → ⊥)
  pub room_for : (n ≡ 18) ↔ (Rated fs × (Room (length xs) (file_size (length xs)) room → ⊥))
  pub sample : (n ≡ 10) ↔ (Rated fs × (Room (length xs) (file_size (length xs)) room × (Within M xs → ⊥)))
  pub accepted : (n ≡ 0) ↔ (Rated fs × (Room (length xs) (file_size (length xs)) room × Within M xs))

pub record ReadReturns (s : List ℕ) (room n : ℕ) : Type 0 where
  pub form : (n ≡ 19) ↔ (IsFile s → ⊥)
  pub rate : (n ≡ 17) ↔ (IsFile s × (Rated (rate_of s) → ⊥))
  pub room_for : (n ≡ 18) ↔ (IsFile s × (Rated (rate_of s) × (Room (count_of s) (count_of s) room → ⊥)))
  pub accepted : (n ≡ 0) ↔ (IsFile s × (Rated (rate_of s) × Room (count_of s) (count_of s) room))

-- ---- of what the routines return and leave
pub record Refuses : Type 0 where
  pub writes : (fs : ℕ) (xs : List ℤ) (room : ℕ) → WriteReturns fs xs room (written fs xs room).refusal
  pub reads : (s : List ℕ) (room : ℕ) → ReadReturns s room (recorded s room).refusal
  -- the rate and the samples that a file holds are those that it was made of
  pub held : (s : List ℕ) (f : IsFile s) → (rate_of s ≡ f.fs) × (count_of s ≡ length f.xs)
  -- "A refusal touches no slice and returns 0 for these"
  pub unwritten : (fs : ℕ) (xs : List ℤ) (old : List ℕ) → ((written fs xs (length old)).refusal ≡ 0 → ⊥)
      → ((written fs xs (length old)).count ≡ 0) × (left fs xs old ≡ old)
  pub unread : (s : List ℕ) (old : List ℤ) → ((recorded s (length old)).refusal ≡ 0 → ⊥)
      → ((recorded s (length old)).rate ≡ 0) × ((recorded s (length old)).count ≡ 0) × (filled s old ≡ old)
  -- "Writing returns the count of bytes"; "success touches nothing past what it writes"
  pub wrote : (fs : ℕ) (xs : List ℤ) (old : List ℕ) → (written fs xs (length old)).refusal ≡ 0
      → let n = (written fs xs (length old)).count in
      (n ≡ length (file fs xs))
      × (take n (left fs xs old) ≡ file fs xs)
      × (drop n (left fs xs old) ≡ drop n old)
  -- "reading the rate and the count of samples"
  pub read : (s : List ℕ) (old : List ℤ) → (recorded s (length old)).refusal ≡ 0
      → let n = (recorded s (length old)).count in
      ((recorded s (length old)).rate ≡ rate_of s)
      × (n ≡ length (samples_of s))
      × (take n (filled s old) ≡ samples_of s)
      × (drop n (filled s old) ≡ drop n old)
