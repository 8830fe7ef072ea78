-- The click figure of what `perform` leaves in the lent output: the samples that the list puts out.
-- Assumes nothing.
use mathlib.Core.Path.{◌≡◌, ◌∙◌}
use mathlib.Core.Bool.{true}
use mathlib.Core.List.{List}
use Prim.Native.Nat.{ℕ, ◌<◌}
use native.Mathlib.Omega.{arith}
use lib.IntN.{ℤ, pos}
use lib.ListN.{length, drop, get_or, get_or-append}
use Rattle.rule.specs.Calls.{Opening}
use Rattle.rule.specs.History.{steps, after}
use Rattle.rule.specs.State.{fresh, puts}
use Rattle.rule.proofs.Agreement.{agrees}
use Rattle.rule.proofs.Click.{click, own_click}
use Rattle.list.specs.Words.{calls, formed}
use Rattle.list.specs.Performed.{output_after}
use Rattle.list.specs.Clicks.{Clicks, OwnClicks}

module _ (o : Opening) (ws : List ℕ) (xs : List ℤ) (places : ℕ) (before : List ℤ)
    (e : formed ws (length xs) (length before) places ≡ true) where
  sample : (m : ℕ) → m < steps (after o (calls ws xs))
      → get_or (output_after o ws xs places before) m (pos 0) ≡ get_or (puts (fresh o) (calls ws xs)) m (pos 0)
  unfolding output_after
  sample m h =
      let p = puts (fresh o) (calls ws xs) in
      let n = (agrees o (calls ws xs)).count in
      rw e (get_or-append p (drop (length p) before) (pos 0) m (omega arith))

pub clicks : (o : Opening) (ws : List ℕ) (xs : List ℤ) (places : ℕ) (before : List ℤ)
    → Clicks o ws xs places before
clicks o ws xs places before f pre post c t a e m split change none due short =
    let g = click o (calls ws xs) pre post c t a e m split change none due short in
    let i = sample o ws xs places before f m short in
    record { near = rw i g.near; same = λ z. i ∙ g.same z }

pub own_clicks : (o : Opening) (ws : List ℕ) (xs : List ℤ) (places : ℕ) (before : List ℤ)
    → OwnClicks o ws xs places before
own_clicks o ws xs places before f pre post c t a e m split change none due short =
    let g = own_click o (calls ws xs) pre post c t a e m split change none due short in
    let i = sample o ws xs places before f m short in
    record { near = rw i g.near; same = λ z. i ∙ g.same z }
