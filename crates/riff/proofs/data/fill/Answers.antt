-- `riff::data::fill` meets its contract: the header, the data and the padding, one after the other.
use mathlib.Core.Path.{◌≡◌, ap, ◌∙◌}
use mathlib.Core.List.{List, ◌++◌}
use Prim.Native.Nat.{ℕ, ◌+◌, ◌*◌, ◌≤◌}
use native.Mathlib.Omega.{arith}
use lib.IntN.{ℤ}
use lib.ListN.{length, drop, replicate, length-append}
use Rattle.octets.specs.Octets.{stored, laid}
use Rattle.octets.proofs.Laws.{laid_next}
use Rattle.octets.proofs.Lists.{stored-length}
use Rattle.riff.specs.Format.{padding, file_size, header, file}
use Rattle.riff.proofs.Format.{header-length, file-length}
use Rattle.riff.proofs.data.fill.Goals as goal

-- the three laid over d, which has room for them
module _ (d : List ℕ) (fs : ℕ) (xs : List ℤ) (h : file_size (length xs) ≤ length d) where
  abbrev n : ℕ
  n = length xs

  abbrev zeros : List ℕ
  zeros = replicate (padding n) 0

  filled : laid (laid (laid d 0 (header fs n)) 44 (stored 3 xs)) (44 + 3 * n) zeros
      ≡ file fs xs ++ drop (file_size n) d
  unfolding file
  filled =
      let k = header-length fs n in
      let m = stored-length 3 xs in
      let p = header fs n ++ stored 3 xs in
      let l = length-append (header fs n) (stored 3 xs) in
      let e : 0 + length (p ++ zeros) ≡ file_size n = omega (arith, file-length fs xs) in
      ap (λ (t : List ℕ). laid t (44 + 3 * n) zeros)
      (laid_next d 0 (header fs n) (omega arith) 44 (stored 3 xs) (omega arith))
      ∙ laid_next d 0 p (omega arith) (44 + 3 * n) zeros (omega arith)
      ∙ ap (λ (i : ℕ). p ++ zeros ++ drop i d) e

pub returns : goal.returns
returns c =
    let a = c.args in
    rw (c.pad.ensures, c.store.ensures, c.header.ensures, c.from.ensures)
    (filled a.file.now a.rate a.samples.now c.requires.0)
