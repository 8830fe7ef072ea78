-- Document 02, L1: what a voice puts out can be written, what is written reads back, what is read is written again
-- byte by byte, and is block input. Statements alone: proofs/Rendered.antt and Theorems.antt prove them.
use Rattle.std.specs.Prelude.{◌≡◌, List, [], ◌∷◌, ◌++◌, ℕ, ◌+◌, ◌*◌, ◌^◌, ◌≤◌, ◌<◌, ℤ, pos, negsuc, length, get_or, take, drop}
use Rattle.integer.specs.Rounding.{M}
use Rattle.allpass.specs.Bounds.{Within}
use Rattle.rule.specs.Voice.{Voice}
use Rattle.rule.specs.Calls.{Call, Opening, block, number}
use Rattle.rule.specs.State.{State, fresh, puts}
use Rattle.riff.specs.Format.{riff_size, file_size, file}
use Rattle.riff.specs.Held.{rate_of, held_in, samples_of}
use Rattle.wav.specs.Written.{written, left}
use Rattle.wav.specs.Recorded.{recorded, filled}
use Rattle.wav.specs.Refusals.{Rated, Room}

-- "rendered samples must leave as RIFF WAVE": all that a list of calls puts out, from an opening or from any voice, is
-- samples, so that writing it is never refused by 10, and at a rate and in a slice within the limits never at all
pub record Rendered : Type 0 where
  pub within : (v : State) (cs : List Call) → Within M (puts v cs)
  pub never_10 : (v : State) (cs : List Call) (fs room : ℕ) → (written fs (puts v cs) room).refusal ≡ 10 → ⊥
  pub leaves : (o : Opening) (cs : List Call) (fs : ℕ) (old : List ℕ)
      → let ys = puts (fresh o) cs in
      Rated fs → Room (length ys) (file_size (length ys)) (length old)
      → left fs ys old ≡ file fs ys ++ drop (length (file fs ys)) old

-- "Reading a written file gives the samples and rate back": the form of every rate and all samples whose sizes
-- fit their fields, and what writing left, read into any slice that is long enough
pub record RoundTrip : Type 0 where
  pub form : (fs : ℕ) (xs : List ℤ) → 3 * fs < 2 ^ 32 → riff_size (length xs) < 2 ^ 32 → Within M xs
      → (rate_of (file fs xs) ≡ fs) × (samples_of (file fs xs) ≡ xs)
  pub back : (fs : ℕ) (xs : List ℤ) (old : List ℕ) (into : List ℤ)
      → (written fs xs (length old)).refusal ≡ 0 → length xs ≤ length into
      → let s = take (written fs xs (length old)).count (left fs xs old) in
      (recorded s (length into) ≡ record { refusal = 0; rate = fs; count = length xs })
      × (filled s into ≡ xs ++ drop (length xs) into)

-- a file that reads and holds no −8,388,608 is the very file that writing its samples gives
abbrev pub Rewritten : Type 0
Rewritten =
    (s : List ℕ) (room : ℕ) (old : List ℕ) → (recorded s room).refusal ≡ 0
    → ((i : ℕ) → get_or (held_in s) i (pos 0) ≡ negsuc 8388607 → ⊥) → length s ≤ length old
    → (written (rate_of s) (samples_of s) (length old) ≡ record { refusal = 0; count = length s })
    × (left (rate_of s) (samples_of s) old ≡ s ++ drop (length s) old)

-- "A stored −8,388,608 reads as −M", in bytes: sample i of a file that reads; and as it is if it is another
pub record Lowest : Type 0 where
  pub lowest : (s : List ℕ) (room i : ℕ) → (recorded s room).refusal ≡ 0 → i < (recorded s room).count
      → take 3 (drop (44 + 3 * i) s) ≡ 0 ∷ 0 ∷ 128 ∷ [] → get_or (samples_of s) i (pos 0) ≡ negsuc 8388606
  pub others : (s : List ℕ) (room i : ℕ) → (recorded s room).refusal ≡ 0
      → (get_or (held_in s) i (pos 0) ≡ negsuc 8388607 → ⊥)
      → get_or (samples_of s) i (pos 0) ≡ get_or (held_in s) i (pos 0)

-- "such a file must be readable as block input": all that is read is samples, so that no block refuses it by 10
pub record BlockInput : Type 0 where
  pub within : (s : List ℕ) → Within M (samples_of s)
  pub never_10 : (s : List ℕ) (v : Voice) (room : ℕ) → number v (block (samples_of s) room) ≡ 10 → ⊥
