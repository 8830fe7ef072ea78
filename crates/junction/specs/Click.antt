-- "Each filter keeps the click figure over its own inputs" (document 02, L12).
-- A statement alone: proofs/Click.antt proves `Click o cs` for every o and cs.
use Rattle.std.specs.Prelude.{◌≡◌, List, [], ◌∷◌, ◌++◌, ℕ, ◌+◌, ◌-◌, ◌≤◌, ◌<◌, ℤ, pos, nat_abs, ◌-ℤ◌, get_or}
use Rattle.rule.specs.Click.{figure}
use Rattle.junction.specs.Junction.{Side, at}
use Rattle.junction.specs.Calls.{Call, move, Opening, number}
use Rattle.junction.specs.History.{History, steps, call, after, new}

-- the step before which a move called at h takes effect
abbrev pub effect : History → ℕ
effect h = steps h + h.junction.Na

-- "before a later one": no move among the calls cs, made from h on, takes effect at step m or before
abbrev pub NoneBy : ℕ → History → List Call → Type 0
NoneBy m h [] = Unit {0}
NoneBy m h (c ∷ cs) = ((d : ℕ) → c ≡ move d → number h.junction c ≡ 0 → m < effect h) × NoneBy m (call h c) cs

-- of the filter over the side s, with inputs xs and outputs ys: a move to d, called before step c, in force since
-- e; order 1: k counts samples
pub record Figure (ys xs : List ℤ) (s : Side) (d Na c e m : ℕ) : Type 0 where
  pub near : nat_abs (get_or ys m (pos 0) -ℤ new s d xs m) ≤ figure (Na + (m - e))
  pub same : ((i : ℕ) → i < c → get_or xs i (pos 0) ≡ pos 0) → get_or ys m (pos 0) ≡ new s d xs m

abbrev pub Click : Opening → List Call → Type 0
Click o cs =
    (pre post : List Call) (d m : ℕ) (s : Side)
    → cs ≡ pre ++ move d ∷ post
    → number (after o pre).junction (move d) ≡ 0
    → NoneBy m (call (after o pre) (move d)) post
    → effect (after o pre) ≤ m → m < steps (after o cs)
    → Figure (at s (after o cs).filters) (at s (after o cs).inputs) s d (after o pre).junction.Na
    (steps (after o pre)) (effect (after o pre)) m
