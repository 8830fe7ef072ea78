-- The click figure of a junction in literals.
--
use mathlib.Core.Path.{◌≡◌}
use mathlib.Core.List.{List}
use Prim.Native.Nat.{ℕ, ◌+◌, ◌-◌, ◌/◌, ◌≤◌}
use native.Mathlib.Omega.{arith}
use native.Mathlib.Nat.{le_trans}
use Rattle.rule.specs.Click.{figure}
use Rattle.rule.proofs.Literals.{tightens}
use Rattle.junction.specs.Calls.{Call, Opening}
use Rattle.junction.specs.History.{after}
use Rattle.junction.specs.Click.{effect}
use Rattle.junction.specs.Literals.{Differs, Literals}
use Rattle.junction.proofs.Click.{click}

figure-falls : {k K : ℕ} → K ≤ k → figure k ≤ figure K
figure-falls {k} {K} h =
    let i : k / 1 ≡ k = omega arith in
    let e : K / 1 ≡ K = omega arith in
    rw (i, e) at (tightens K k 1 (omega arith) h)

module _ (o : Opening) (cs : List Call) where
  differs : (Na j : ℕ) → Differs o cs Na j (figure (Na + j))
  differs Na j pre post d m s split k late a e short =
      let i : Na + j ≤ (after o pre).junction.Na + (m - effect (after o pre)) = omega arith in
      le_trans (click o cs pre post d m s split k late (omega arith) short).near (figure-falls i)

  pub literals : Literals o cs
  unfolding figure
  literals = record {
    na_0 = differs 0 0;
    na_0_after_1 = differs 0 1;
    na_8 = differs 8 0;
    na_23 = differs 23 0;
    na_24 = differs 24 0;
    na_64 = differs 64 0;
  }
