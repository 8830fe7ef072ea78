-- The own figure of the filter that comes in holds for every opening and every list of calls, and with it demand 3.
use mathlib.Core.List.{List}
use Prim.Native.Nat.{◌+◌, ◌-◌, ◌/◌, ◌≤◌}
use native.Mathlib.Omega.{arith}
use native.Mathlib.Nat.{le_trans}
use Rattle.thiran.specs.Coefficients.{norm}
use Rattle.rule.specs.Voice.{A}
use Rattle.rule.specs.Calls.{Call, Opening}
use Rattle.rule.specs.History.{call, after}
use Rattle.rule.specs.State.{fresh, puts}
use Rattle.rule.specs.Click.{Click}
use Rattle.rule.specs.OwnFigure.{OwnFigure, OwnClick}
use Rattle.rule.proofs.Filters.{norm-fit}
use Rattle.rule.proofs.OwnFigure.{own_laws}
use Rattle.rule.proofs.Walk.{after-split}
use Rattle.rule.proofs.Sound.{call_sound, after_sound}
use Rattle.rule.proofs.Place.{Place, place-from, passed, begins}
use Rattle.rule.proofs.Agreement.{agrees}

pub own_click : (o : Opening) (cs : List Call) → OwnClick o cs
own_click o cs pre post c t a e m split k late since before-end = go (omega arith)
  where
    go : e ≤ m → OwnFigure (norm (A t)) (puts (fresh o) cs) (after o cs).s t a e m
    go due =
        let h = after o pre in
        let g = after_sound o pre in
        let b = begins h g k due in
        let end : Place t b.fit a e m due (after o cs)
        = rw (after-split o pre post c split)
        (place-from t b.fit a e m due post (call h c) (call_sound h c g) late b.place) in
        rw (agrees o cs).outputs (passed t b.fit a e m due (after o cs) before-end end)

pub click : (o : Opening) (cs : List Call) → Click o cs
click o cs pre post c t a e m split k late since short =
    let r = own_click o cs pre post c t a e m split k late since short in
    let f = (begins (after o pre) (after_sound o pre) k since).fit in
    record {
      near = le_trans r.near (own_laws.under (norm (A t)) ((a + (m - e)) / t.N) (norm-fit f));
      same = r.same;
    }
