-- specs/Theorems.antt: what is written reads back, what is read is written again, and is block input.
-- Assumes nothing.
use mathlib.Core.Path.{◌≡◌, refl, sym, ap, ◌∙◌}
use mathlib.Core.List.{List, ◌++◌, map}
use Prim.Native.Nat.{ℕ, ◌*◌, ◌^◌, ◌≤◌, ◌<◌}
use native.Mathlib.Omega.{arith}
use lib.IntN.{ℤ, pos}
use lib.ListN.{length, get_or, drop}
use Rattle.integer.specs.Rounding.{M, clip}
use Rattle.integer.proofs.Rounding.{clip-kept}
use Rattle.allpass.specs.Bounds.{Within}
use Rattle.rule.proofs.Refusals.{refuses}
use Rattle.octets.specs.Octets.{number, signed, half}
use Rattle.octets.specs.Theorems.{AllFit}
use Rattle.riff.specs.Format.{riff_size, file_size, file}
use Rattle.riff.specs.Held.{rate_of, count_of, held_in, samples_of}
use Rattle.riff.proofs.Format.{file-length, rate-field, held}
use Rattle.riff.proofs.Samples.{sample-at}
use Rattle.wav.specs.Written.{written}
use Rattle.wav.specs.Recorded.{reading_number, recorded, filled}
use Rattle.wav.specs.Refusals.{Rated, IsFile}
use Rattle.wav.specs.Theorems.{RoundTrip, Rewritten, Lowest, BlockInput}
use Rattle.wav.proofs.Numbers.{all-fits, quiet, all_quiet, fit_at, all-kept, all-clipped, clipped-at}
use Rattle.wav.proofs.Files.{held-length, numbers-held, rate-held, count_held}
use Rattle.wav.proofs.Refusals.{writes, reads}
use Rattle.wav.proofs.Results.{given-done, write_done, left-done, read_done, filled-done}
use Rattle.wav.proofs.Results.{refuses as results}

-- ---- what is written reads back
module _ (fs : ℕ) (xs : List ℤ) where
  of-file : 3 * fs < 2 ^ 32 → riff_size (length xs) < 2 ^ 32 → Within M xs
      → (rate_of (file fs xs) ≡ fs) × (samples_of (file fs xs) ≡ xs)
  unfolding samples_of
  of-file h g w = (
    rate-field fs xs (omega arith),
    ap (map clip) (held fs xs (omega arith) (all-fits w)) ∙ all-kept w,
  )

  module _ (into : List ℤ) (h : Rated fs) (k : length xs ≤ 1000000)
      (w : Within M xs) (l : length xs ≤ length into) where
    abbrev s : List ℕ
    s = file fs xs

    size : riff_size (length xs) < 2 ^ 32
    size = omega arith

    byte_rate : 3 * fs < 2 ^ 32
    byte_rate = omega (arith, h.most)

    abbrev is : IsFile s
    is = record {
      fs = fs;
      xs = xs;
      byte_rate = byte_rate;
      riff_size_fits = size;
      numbers = all-fits w;
      whole = refl;
    }

    zero_number : reading_number s (length into) ≡ 0
    zero_number =
        (reads s (length into)).accepted.1
        (is, (rw (rate-held s is) h, rw (count_held s is) (record { few = k; long = l })))

    read_back : recorded s (length into) ≡ record { refusal = 0; rate = fs; count = length xs }
    read_back = read_done s (length into) zero_number ∙ rw (rate-held s is, count_held s is)

    filled-back : filled s into ≡ xs ++ drop (length xs) into
    filled-back =
        filled-done s into zero_number ∙ rw ((of-file byte_rate size w).1, count_held s is)

pub round_trip : RoundTrip
unfolding written
round_trip = record {
  form = of-file;
  back = λ fs xs old into e l.
      let p = (writes fs xs (length old)).accepted.0 e in
      let k = p.1.0.few in
      rw (results.wrote fs xs old e).1
      (read_back fs xs into p.0 k p.1.1 l, filled-back fs xs into p.0 k p.1.1 l);
}

-- ---- what is read is written again
pub rewritten : Rewritten
unfolding recorded samples_of
rewritten s room old e g l =
    let p = (reads s room).accepted.0 e in
    let f = p.0 in
    let fs = rate_of s in
    let xs = held_in s in
    let whole : s ≡ file fs xs = rw (rate-held s f, numbers-held s f) f.whole in
    let long : length s ≡ file_size (length xs) = ap length whole ∙ file-length fs xs in
    let w : Within M xs = all_quiet (rw (numbers-held s f) f.numbers) g in
    let few : length xs ≤ 1000000 = omega (arith, p.1.1.few, held-length s) in
    let z = (writes fs xs (length old)).accepted.1 (p.1.0, (record { few = few; long = omega arith }, w)) in
    rw (all-kept w)
    (write_done fs xs (length old) z ∙ rw (sym long), left-done fs xs old z ∙ rw (← long, ← whole))

-- ---- −8,388,608
pub lowest : Lowest
unfolding recorded held_in samples_of number clip
lowest = record {
  lowest = λ s room i e h b.
      let k : i < count_of s = rw (given-done _ (count_of s) e) at h in
      sample-at s (count_of s) i k ∙ ap (λ (l : List ℕ). clip (signed (half 3) (number l))) b;
  others = λ s room i e g.
      let f = ((reads s room).accepted.0 e).0 in
      let x = get_or (held_in s) i (pos 0) in
      let k : AllFit 3 (held_in s) = rw (numbers-held s f) f.numbers in
      clipped-at (held_in s) i ∙ clip-kept x (quiet x (fit_at k i) g);
}

-- ---- block input
pub block_input : BlockInput
unfolding samples_of
block_input = record {
  within = λ s. all-clipped (held_in s);
  never_10 = λ s v room e. ((refuses.blocks v (samples_of s) room).input.0 e).1 (all-clipped (held_in s));
}
