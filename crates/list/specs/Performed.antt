-- What performing a list of calls on a fresh voice returns and leaves; demand 3 is a promise of it.
-- Definitions alone. Assumes nothing.
use Rattle.std.specs.Prelude.{◌≡◌, cond, List, ℕ, ℤ, length, Result, Ok, Err}
use Rattle.refusal.specs.declared.Refusal.{Refusal}
use Rattle.refusal.specs.Numbers.{number_of, code_of}
use Rattle.refusal.specs.Limits.{refusal}
use Rattle.samples.specs.Samples.{over}
use Rattle.rule.specs.Calls.{Opening, open_limits}
use Rattle.rule.specs.State.{fresh, puts, numbers}
use Rattle.list.specs.Words.{calls, formed}
use Rattle.list.specs.declared.Performed.{Performed as Done}

-- what performing a list returns by number: its own, Open's, and how many samples the calls put out
pub record Performed : Type 0 where
  pub refusal : ℕ
  pub opening : ℕ
  pub written : ℕ

abbrev pub done : Result Done Refusal → Performed
done (Ok p) = record { refusal = 0; opening = code_of p.opening; written = p.written }
done (Err r) = record { refusal = number_of r; opening = 0; written = 0 }

-- 31: a list that is cut short or not in this form, before anything is done
unfoldable pub performed : Opening → List ℕ → List ℤ → ℕ → ℕ → Performed
performed o ws xs outputs places =
    cond (formed ws (length xs) outputs places)
    (record {
      refusal = 0;
      opening = refusal (open_limits o);
      written = length (puts (fresh o) (calls ws xs));
    })
    (record { refusal = 31; opening = 0; written = 0 })

-- the lent output afterwards: what the list puts out, and the rest untouched
unfoldable pub output_after : Opening → List ℕ → List ℤ → ℕ → List ℤ → List ℤ
output_after o ws xs places before =
    cond (formed ws (length xs) (length before) places)
    (over (puts (fresh o) (calls ws xs)) before)
    before

-- the lent numbers afterwards: those of the calls, in their order, and the rest untouched
unfoldable pub numbers_after : Opening → List ℕ → List ℤ → ℕ → List ℕ → List ℕ
numbers_after o ws xs outputs before =
    cond (formed ws (length xs) outputs (length before))
    (over (numbers (fresh o) (calls ws xs)) before)
    before

-- what `perform` returns, and what it leaves in the lent output and the lent numbers
pub record Performs (o : Opening) (ws : List ℕ) (xs before : List ℤ) (places : List ℕ)
    (r : Performed) (out : List ℤ) (nums : List ℕ) : Type 0 where
  pub value : r ≡ performed o ws xs (length before) (length places)
  pub output : out ≡ output_after o ws xs (length places) before
  pub codes : nums ≡ numbers_after o ws xs (length before) places
