-- Demand 3 speaks of every sample: it is exactly the opening filter's, or `click` speaks of it.
-- Assumes nothing.
use mathlib.Core.Path.{◌≡◌, refl, sym, ◌∙◌}
use mathlib.Core.List.{List}
use Prim.Native.Nat.{ℕ, ◌≤◌, ◌<◌}
use native.Mathlib.Omega.{arith}
use lib.IntN.{pos}
use lib.ListN.{get_or}
use Rattle.rule.specs.Calls.{Call, Opening, opened}
use Rattle.rule.specs.History.{steps, fresh, after, new}
use Rattle.rule.specs.State.{puts}
use Rattle.rule.specs.State as S
use Rattle.rule.specs.Click.{NoneBy, figure}
use Rattle.rule.specs.Demands.{Spoken, exact, figured}
use Rattle.rule.specs.Literals.{FigureEnds, FigureAdvances}
use Rattle.rule.proofs.Keeps.{none-some}
use Rattle.rule.proofs.Opened.{opened_rested}
use Rattle.rule.proofs.Sound.{fresh_sound}
use Rattle.rule.proofs.Course.{ruling}
use Rattle.rule.proofs.Place.{Place, ahead, place-from, passed}
use Rattle.rule.proofs.Agreement.{agrees}
use Rattle.rule.proofs.Click.{click}
use Rattle.rule.proofs.Ruling.{Covered, before, ruled, covered}

-- ---- a sample before any change took effect is exactly the opening filter's
opening : (o : Opening) (cs : List Call) (m : ℕ) → NoneBy m (fresh o) cs → m < steps (after o cs)
    → get_or (puts (S.fresh o) cs) m (pos 0) ≡ new (opened o).tuning (after o cs).s m
opening o cs m n short =
    let r = opened_rested o in
    let t = (opened o).tuning in
    let f = r.valid.fit in
    let due : 0 ≤ m = omega arith in
    let start : Place t f 0 0 m due (fresh o)
    = ahead (omega arith)
    (ruling refl (omega arith) r.state (λ w z. absurd (none-some (sym r.idle ∙ z)))) in
    let end = place-from t f 0 0 m due cs (fresh o) (fresh_sound o) n start in
    rw (agrees o cs).outputs
    ((passed t f 0 0 m due (after o cs) short end).same (λ i l. absurd (omega arith)))

pub speaks : (o : Opening) (cs : List Call) (m : ℕ) → m < steps (after o cs) → Spoken o cs m
speaks o cs m short = go (covered m (fresh o) cs)
  where
    go : Covered m (fresh o) cs → Spoken o cs m
    go (before n) = exact n (opening o cs m n short)
    go (ruled pre c post k) =
        figured pre c post k
        (click o cs pre post c k.t k.a k.e m k.split k.change k.until
        (omega (arith, k.since)) short)

-- ---- the figure in numbers
pub figure-ends : FigureEnds
unfolding figure
figure-ends = record { k_0 = refl; k_1 = refl; k_22 = refl; k_23 = refl; k_24 = refl; k_25 = refl }

pub figure-advances : FigureAdvances
unfolding figure
figure-advances = record { order_1 = refl; order_2 = refl; order_3 = refl }
