-- What writing and reading return and leave, by their number: `Refuses` of specs/Refusals.antt.
-- Assumes nothing.
use mathlib.Core.Path.{◌≡◌, refl, sym, ◌∙◌}
use mathlib.Core.List.{List, ◌++◌}
use Prim.Native.Nat.{ℕ}
use lib.IntN.{ℤ}
use lib.ListN.{length, drop, length-map}
use lib.Seq.{take_at, drop_at}
use borrow.Author.Tests.{eq-eqb, ne_eqb}
use Rattle.integer.specs.Rounding.{clip}
use Rattle.riff.specs.Format.{file_size, file}
use Rattle.riff.specs.Held.{rate_of, count_of, held_in, samples_of}
use Rattle.riff.proofs.Format.{file-length}
use Rattle.wav.specs.Written.{write_number, given, written, left}
use Rattle.wav.specs.Recorded.{reading_number, recorded, filled}
use Rattle.wav.specs.Refusals.{Refuses}
use Rattle.wav.proofs.Files.{held-length, rate-held, count_held}
use Rattle.wav.proofs.Refusals.{writes, reads}

pub given-done : (n x : ℕ) → n ≡ 0 → given n x ≡ x
given-done n x e = rw (eq-eqb n 0 e)

given-none : (n x : ℕ) → (n ≡ 0 → ⊥) → given n x ≡ 0
given-none n x f = rw (ne_eqb n 0 f)

-- ---- writing
module _ (fs : ℕ) (xs : List ℤ) where
  pub write_done : (r : ℕ) → write_number fs xs r ≡ 0
      → written fs xs r ≡ record { refusal = 0; count = file_size (length xs) }
  unfolding written
  write_done r e = rw (e)

  pub write_refused : (r : ℕ) → (write_number fs xs r ≡ 0 → ⊥)
      → written fs xs r ≡ record { refusal = write_number fs xs r; count = 0 }
  unfolding written
  write_refused r f = rw (ne_eqb (write_number fs xs r) 0 f)

  pub left-done : (old : List ℕ) → write_number fs xs (length old) ≡ 0
      → left fs xs old ≡ file fs xs ++ drop (file_size (length xs)) old
  unfolding left
  left-done old e = rw (eq-eqb (write_number fs xs (length old)) 0 e)

  pub left-refused : (old : List ℕ) → (write_number fs xs (length old) ≡ 0 → ⊥) → left fs xs old ≡ old
  unfolding left
  left-refused old f = rw (ne_eqb (write_number fs xs (length old)) 0 f)

-- ---- reading
pub samples-length : (s : List ℕ) → length (samples_of s) ≡ count_of s
unfolding samples_of
samples-length s = length-map (held_in s) clip ∙ held-length s

module _ (s : List ℕ) where
  pub read_done : (r : ℕ) → reading_number s r ≡ 0
      → recorded s r ≡ record { refusal = 0; rate = rate_of s; count = count_of s }
  unfolding recorded
  read_done r e = rw (e)

  pub read-refused : (r : ℕ) → (reading_number s r ≡ 0 → ⊥)
      → recorded s r ≡ record { refusal = reading_number s r; rate = 0; count = 0 }
  unfolding recorded
  read-refused r f = rw (ne_eqb (reading_number s r) 0 f)

  pub filled-done : (old : List ℤ) → reading_number s (length old) ≡ 0
      → filled s old ≡ samples_of s ++ drop (count_of s) old
  unfolding filled
  filled-done old e = rw (eq-eqb (reading_number s (length old)) 0 e)

  pub filled-refused : (old : List ℤ) → (reading_number s (length old) ≡ 0 → ⊥) → filled s old ≡ old
  unfolding filled
  filled-refused old f = rw (ne_eqb (reading_number s (length old)) 0 f)

pub refuses : Refuses
unfolding written recorded
refuses = record {
  writes = writes;
  reads = reads;
  held = λ s f. (rate-held s f, count_held s f);
  unwritten = λ fs xs old f. (given-none _ _ f, left-refused fs xs old f);
  unread = λ s old f. (given-none _ _ f, given-none _ _ f, filled-refused s old f);
  wrote = λ fs xs old e.
      let l = file-length fs xs in
      rw (given-done _ (file_size (length xs)) e, left-done fs xs old e)
      (sym l, take_at (file fs xs) _ (file_size (length xs)) l, drop_at (file fs xs) _ (file_size (length xs)) l);
  read = λ s old e.
      let l = samples-length s in
      rw (given-done _ (count_of s) e, given-done _ (rate_of s) e, filled-done s old e)
      (refl, sym l, take_at (samples_of s) _ (count_of s) l, drop_at (samples_of s) _ (count_of s) l);
}
