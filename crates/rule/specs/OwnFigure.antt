-- The click figure with the tuning's own coefficients: by what they add up to, in place of the 32,768 that no tuning
-- passes. Demand 3's `Click` follows from it. Statements alone: proofs/Click.antt proves `OwnClick o cs` for every o
-- and cs, proofs/OwnFigure.antt the laws.
use Rattle.std.specs.Prelude.{◌≡◌, List, ◌∷◌, ◌++◌, ℕ, ◌+◌, ◌-◌, ◌/◌, ◌≤◌, ◌<◌, ℤ, pos, nat_abs, ◌-ℤ◌, get_or}
use Rattle.thiran.specs.Coefficients.{norm}
use Rattle.allpass.specs.Bounds.{own_figure}
use Rattle.rule.specs.Voice.{Tuning, A}
use Rattle.rule.specs.Calls.{Call, Opening}
use Rattle.rule.specs.History.{steps, read, call, after, new}
use Rattle.rule.specs.State.{fresh, puts}
use Rattle.rule.specs.Click.{figure, Change, NoneBy}

-- as `Figure`, by coefficients that add up to n
pub record OwnFigure (n : ℕ) (y s : List ℤ) (t : Tuning) (a e m : ℕ) : Type 0 where
  pub near : nat_abs (get_or y m (pos 0) -ℤ new t s m) ≤ own_figure n ((a + (m - e)) / t.N)
  pub same : ((i : ℕ) → i < e - a → read s i t.L ≡ pos 0) → get_or y m (pos 0) ≡ new t s m

-- as `ClickFigure`: the coefficients are those of the filter that comes in
abbrev pub OwnClickFigure : Opening → List Call → List ℤ → Type 0
OwnClickFigure o cs y =
    (pre post : List Call) (c : Call) (t : Tuning) (a e m : ℕ)
    → cs ≡ pre ++ c ∷ post
    → Change (after o pre) c t a e
    → NoneBy m (call (after o pre) c) post
    → e ≤ m → m < steps (after o cs)
    → OwnFigure (norm (A t)) y (after o cs).s t a e m

-- as `Click`
abbrev pub OwnClick : Opening → List Call → Type 0
OwnClick o cs = OwnClickFigure o cs (puts (fresh o) cs)

-- it never exceeds demand 3's figure; it falls with k, and rises with n
pub record OwnFigureLaws : Type 0 where
  pub under : (n k : ℕ) → n ≤ 32768 → own_figure n k ≤ figure k
  pub falls : (n k K : ℕ) → n ≤ 65536 → K ≤ k → own_figure n k ≤ own_figure n K
  pub rises : (n p k : ℕ) → n ≤ p → own_figure n k ≤ own_figure p k
