-- What `is_file` says: the bytes are a file from outside, and what the reader tests part by part.
-- Assumes nothing.
use mathlib.Core.Path.{◌≡◌, sym, ap, subst, ◌∙◌}
use mathlib.Core.Bool.{true}
use mathlib.Core.List.{List, ◌++◌, append_assoc}
use Prim.Native.Nat.{ℕ, ◌+◌, ◌*◌, ◌^◌, ◌≤◌, ◌<◌}
use native.Mathlib.Omega.{arith}
use lib.Dec.{ltb}
use lib.ListN.{length, take, drop, replicate, length-drop, take-append-drop}
use lib.Seq.{drop-drop}
use borrow.Author.Tests.{ltb-true, lt-ltb}
use Rattle.octets.specs.Octets.{stored, loaded}
use Rattle.octets.specs.Theorems.{Bytes}
use Rattle.octets.proofs.Laws.{dropped-bytes}
use Rattle.octets.proofs.Lists.{loaded-length}
use Rattle.octets.proofs.Theorems.{stored_back, all_fit}
use Rattle.riff.specs.Format.{padding, riff_size, file_size, header, file}
use Rattle.riff.specs.Held.{rate_of, count_of, held_in}
use Rattle.riff.proofs.Format.{file-length, file-head, file-padding, file-bytes}
use Rattle.riff.proofs.Format.{rate-field, count-field, held}
use Rattle.wav.specs.Recorded.{same, is_file}
use Rattle.wav.specs.Refusals.{IsFile}
use Rattle.wav.proofs.Flags.{both, joined, same-is, is_same}

-- ---- the three tests
pub record Tested (s : List ℕ) : Type 0 where
  pub byte_rate : 3 * rate_of s < 2 ^ 32
  pub riff_size_fits : riff_size (count_of s) < 2 ^ 32
  pub whole : s ≡ file (rate_of s) (held_in s)

pub tested : (s : List ℕ) → is_file s ≡ true → Tested s
unfolding is_file
tested s e =
    let p = both {a = ltb (3 * rate_of s) (2 ^ 32)} e in
    let q = both {a = ltb (riff_size (count_of s)) (2 ^ 32)} p.1 in
    record {
      byte_rate = ltb-true _ _ p.0;
      riff_size_fits = ltb-true _ _ q.0;
      whole = same-is s (file (rate_of s) (held_in s)) q.1;
    }

pub is-file : (s : List ℕ) → Tested s → is_file s ≡ true
unfolding is_file
is-file s t =
    joined (lt-ltb _ _ t.byte_rate)
    (joined (lt-ltb _ _ t.riff_size_fits) (ap (same s) (sym t.whole) ∙ is_same s))

-- ---- from outside
module _ (s : List ℕ) where
  pub held-length : length (held_in s) ≡ count_of s
  unfolding held_in
  held-length = loaded-length 3 (count_of s) (drop 44 s)

  pub outside_in : is_file s ≡ true → IsFile s
  unfolding held_in
  outside_in e =
      let t = tested s e in
      let b : Bytes s = subst Bytes (sym t.whole) (file-bytes (rate_of s) (held_in s)) in
      record {
        fs = rate_of s;
        xs = held_in s;
        byte_rate = t.byte_rate;
        riff_size_fits = rw held-length t.riff_size_fits;
        numbers = all_fit 3 (omega arith) (count_of s) (drop 44 s) (dropped-bytes 44 s b);
        whole = t.whole;
      }

  module _ (f : IsFile s) where
    pub rate-held : rate_of s ≡ f.fs
    rate-held = ap rate_of f.whole ∙ rate-field f.fs f.xs (omega (arith, f.byte_rate))

    pub count_held : count_of s ≡ length f.xs
    count_held = ap count_of f.whole ∙ count-field f.fs f.xs (omega (arith, f.riff_size_fits))

    pub numbers-held : held_in s ≡ f.xs
    numbers-held = ap held_in f.whole ∙ held f.fs f.xs (omega (arith, f.riff_size_fits)) f.numbers

    pub long-held : length s ≡ file_size (count_of s)
    long-held = ap length f.whole ∙ file-length f.fs f.xs ∙ ap file_size (sym count_held)

    pub inside-out : is_file s ≡ true
    inside-out =
        is-file s
        (record {
          byte_rate = rw rate-held f.byte_rate;
          riff_size_fits = rw count_held f.riff_size_fits;
          whole = rw (rate-held, numbers-held) f.whole;
        })

  -- ---- part by part
  pub record Parts : Type 0 where
    pub byte_rate : 3 * rate_of s < 2 ^ 32
    pub riff_size_fits : riff_size (count_of s) < 2 ^ 32
    pub long : length s ≡ file_size (count_of s)
    pub head : take 44 s ≡ header (rate_of s) (count_of s)
    pub zeros : drop (44 + 3 * count_of s) s ≡ replicate (padding (count_of s)) 0

  pub parts : is_file s ≡ true → Parts
  parts e =
      let t = tested s e in
      let fs = rate_of s in
      let xs = held_in s in
      record {
        byte_rate = t.byte_rate;
        riff_size_fits = t.riff_size_fits;
        long = ap length t.whole ∙ file-length fs xs ∙ ap file_size held-length;
        head = ap (take 44) t.whole ∙ file-head fs xs ∙ ap (header fs) held-length;
        zeros = ap (drop (44 + 3 * count_of s)) t.whole ∙ rw held-length at (file-padding fs xs);
      }

  -- where they are bytes
  pub from_parts : Bytes s → Parts → is_file s ≡ true
  unfolding held_in file
  from_parts b p =
      let n = count_of s in
      let d = drop 44 s in
      let l : 3 * n ≤ length d = omega (arith, p.long, length-drop 44 s) in
      let kept : stored 3 (loaded 3 n d) ≡ take (3 * n) d
      = stored_back 3 (omega arith) n d (dropped-bytes 44 s b) l in
      let rest : drop (3 * n) d ≡ replicate (padding n) 0 = drop-drop (3 * n) 44 s ∙ p.zeros in
      let made : header (rate_of s) n ++ stored 3 (loaded 3 n d) ++ replicate (padding n) 0 ≡ s
      = rw (← p.head, kept, ← rest)
      (append_assoc (take 44 s) (take (3 * n) d) (drop (3 * n) d)
      ∙ ap (λ (r : List ℕ). take 44 s ++ r) (take-append-drop (3 * n) d)
      ∙ take-append-drop 44 s) in
      is-file s
      (record {
        byte_rate = p.byte_rate;
        riff_size_fits = p.riff_size_fits;
        whole = rw held-length (sym made);
      })
