-- A list that is made equal to another element by element, from the front.
-- Assumes nothing.
use mathlib.Core.Path.{◌≡◌, sym, ◌∙◌}
use mathlib.Core.List.{List}
use Prim.Native.Nat.{ℕ, ◌+◌, ◌≤◌, ◌<◌}
use native.Mathlib.Omega.{arith}
use native.Mathlib.Numerals.{add-one}
use lib.IntN.{ℤ, pos}
use lib.ListN.{length, take, get_or, set, length-set}
use lib.Seq.{take-suc, take-suc-set, take_all}

-- ys is as long as xs, and agrees with it below i
pub record Taken (xs ys : List ℤ) (i : ℕ) : Type 0 where
  pub within : i ≤ length xs
  pub long : length ys ≡ length xs
  pub same : take i ys ≡ take i xs

module _ (xs ys : List ℤ) (i : ℕ) (t : Taken xs ys i) where
  pub one_more : (y : ℤ) → i < length xs → y ≡ get_or xs i (pos 0) → Taken xs (set ys i y) (i + 1)
  one_more y h e =
      record {
        within = omega arith;
        long = length-set ys i y ∙ t.long;
        same = rw (add-one, take-suc-set ys i y (omega arith), take-suc xs i (pos 0) h, t.same, e);
      }

  pub all-taken : length xs ≤ i → ys ≡ xs
  all-taken h = sym (take_all i ys (omega arith)) ∙ t.same ∙ take_all i xs h
