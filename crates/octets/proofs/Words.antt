-- Four and eight bytes that are there: the front of a slice, and the number that `from_le_bytes` makes of it.
use Rattle.std.proofs.Common.{◌≡◌, ℕ, ◌+◌, ◌*◌, ◌<◌, List, length, drop, refl, arith, w32, w64}
use lib.ListN.{get_or}
use lib.Seq.{drop-cons}
use native.Mathlib.Numerals.{add-one}
use Rattle.std.specs.Int.{from_le_bytes}
use Rattle.octets.specs.Octets.{number}
use Rattle.octets.proofs.Laws.{none_left}

step : (bs : List ℕ) (i : ℕ) → i < length bs → number (drop i bs) ≡ get_or bs i 0 + 256 * number (drop (i + 1) bs)
unfolding number
step bs i h = rw (add-one, drop-cons bs i 0 h) refl

pub number_4 : (bs : List ℕ) → length bs ≡ 4 → from_le_bytes w32 bs ≡ number bs
number_4 bs h =
    omega (
      arith,
      step bs 0 (omega arith),
      step bs 1 (omega arith),
      step bs 2 (omega arith),
      step bs 3 (omega arith),
      none_left bs 4 (omega arith),
    )

pub number_8 : (bs : List ℕ) → length bs ≡ 8 → from_le_bytes w64 bs ≡ number bs
number_8 bs h =
    omega (
      arith,
      step bs 0 (omega arith),
      step bs 1 (omega arith),
      step bs 2 (omega arith),
      step bs 3 (omega arith),
      step bs 4 (omega arith),
      step bs 5 (omega arith),
      step bs 6 (omega arith),
      step bs 7 (omega arith),
      none_left bs 8 (omega arith),
    )
