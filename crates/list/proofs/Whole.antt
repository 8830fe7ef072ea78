-- What performing a list returns and leaves, where the words are in form and where they are not.
-- Assumes nothing.
use mathlib.Core.Path.{◌≡◌}
use mathlib.Core.Bool.{true, false}
use mathlib.Core.List.{List}
use Prim.Native.Nat.{ℕ}
use lib.IntN.{ℤ}
use lib.ListN.{length}
use Rattle.refusal.specs.Limits.{refusal}
use Rattle.rule.specs.Calls.{Opening, open_limits}
use Rattle.rule.specs.State.{State, fresh, puts, numbers}
use Rattle.list.specs.Words.{calls, formed}
use Rattle.samples.specs.Samples.{over}
use Rattle.list.specs.Performed.{performed, output_after, numbers_after, Performs}

module _ (o : Opening) (ws : List ℕ) (xs before : List ℤ) (places : List ℕ) where
  pub unformed : formed ws (length xs) (length before) (length places) ≡ false
      → Performs o ws xs before places (record { refusal = 31; opening = 0; written = 0 }) before places
  unfolding performed output_after numbers_after
  unformed e = record { value = rw e; output = rw e; codes = rw e }

  pub done : formed ws (length xs) (length before) (length places) ≡ true → (v : State) → v ≡ fresh o
      → (n w : ℕ) (out : List ℤ) (nums : List ℕ) → n ≡ refusal (open_limits o)
      → w ≡ length (puts v (calls ws xs)) → out ≡ over (puts v (calls ws xs)) before
      → nums ≡ over (numbers v (calls ws xs)) places
      → Performs o ws xs before places (record { refusal = 0; opening = n; written = w }) out nums
  unfolding performed output_after numbers_after
  done e v f n w out nums i j k l = record {
    value = rw (e, i, j, f);
    output = rw (e, k, f);
    codes = rw (e, l, f);
  }
