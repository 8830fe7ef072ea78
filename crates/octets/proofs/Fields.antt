-- Fields one after the other, each a number in so many bytes, and that putting each of them lays them all.
-- Assumes nothing.
use mathlib.Core.Path.{◌≡◌, sym, ◌∙◌}
use mathlib.Core.List.{List, [], ◌∷◌, ◌++◌}
use Prim.Native.Nat.{ℕ, ◌+◌, ◌≤◌}
use native.Mathlib.Omega.{arith}
use lib.ListN.{length, length-append}
use Rattle.octets.specs.Octets.{bytes, laid}
use Rattle.octets.specs.Theorems.{Bytes}
use Rattle.octets.proofs.Laws.{bytes-length, bytes-bytes, append-bytes, laid_nil, laid-length, laid_next}

pub record Field : Type 0 where
  pub width : ℕ
  pub value : ℕ

abbrev pub one : Field → List ℕ
one f = bytes f.width f.value

abbrev pub fields : List Field → List ℕ
fields [] = []
fields (f ∷ fs) = one f ++ fields fs

pub fields-bytes : (fs : List Field) → Bytes (fields fs)
fields-bytes [] i = omega arith
fields-bytes (f ∷ fs) i =
    append-bytes (one f) (fields fs) (bytes-bytes f.width f.value) (fields-bytes fs) i

-- what `put` leaves, called for one field after the other from the place at on
abbrev pub puts : List ℕ → ℕ → List Field → List ℕ
puts d at [] = d
puts d at (f ∷ fs) = puts (laid d at (one f)) (at + f.width) fs

pub puts-laid : (d : List ℕ) (at : ℕ) (fs : List Field) → at + length (fields fs) ≤ length d
    → puts d at fs ≡ laid d at (fields fs)
puts-laid d at [] h = sym (laid_nil d at)
puts-laid d at (f ∷ fs) h =
    let w = bytes-length f.width f.value in
    let n = length-append (one f) (fields fs) in
    let l : at + length (one f) ≤ length d = omega arith in
    puts-laid (laid d at (one f)) (at + f.width) fs (omega (arith, laid-length d at (one f) l))
    ∙ laid_next d at (one f) l (at + f.width) (fields fs) (omega arith)
