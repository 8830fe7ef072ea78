-- `change::prepared` meets its contract: a step of the loop, and its end.
-- Assumes nothing.
use mathlib.Core.Path.{◌≡◌, refl, ap, ◌∙◌}
use Prim.Native.Nat.{◌+◌, ◌-◌}
use native.Mathlib.Omega.{arith}
use lib.IntN.{ℤ}
use Rattle.allpass.specs.Allpass.{next}
use Rattle.line.specs.Ring.{ring}
use Rattle.rule.specs.Voice.{A}
use Rattle.rule.specs.State.{back}
use Rattle.voice.specs.declared.Tuning.{Tuning}
use Rattle.voice.specs.Struct.{tuning_of, filter_of}
use Rattle.rule.proofs.Read.{length-window}
use Rattle.voice.proofs.Within.{read-within}
use Rattle.change.proofs.Windows.{window-run}
use Rattle.change.proofs.prepared.Goals as goal

pub loop-left-init : goal.loop-left-init
loop-left-init c = (c.requires.0, refl, omega arith, refl)

pub moved-filter-requires : goal.moved-filter-requires
moved-filter-requires c =
    let k = c.args.f.tuning.length + c.loop-left.left in
    (c.loop-left.invariant.0, read-within (k - 1) c.requires.3 c.read-x.ensures)

pub overflow_add-count : goal.overflow_add-count
overflow_add-count c = omega arith

pub loop-left-preserved : goal.loop-left-preserved
loop-left-preserved c =
    let l = c.loop-left in
    let t = c.args.f.tuning in
    let v = filter_of l.filter in
    let u = filter_of c.moved-filter.result in
    let m = c.moved-filter.ensures in
    let q = back (ring c.args.at c.args.line.now) in
    let e : u ≡ next (A (tuning_of t)) v (q (t.length + l.left)) =
    m.state
    ∙ ap (λ (t : Tuning). next (A (tuning_of t)) v c.read-x.result.n) l.invariant.1
    ∙ ap (λ (x : ℤ). next (A (tuning_of t)) v x) c.read-x.ensures in (
      m.tuned,
      m.tuning ∙ l.invariant.1,
      omega arith,
      window-run (A (tuning_of t)) v u q t.length l.left (omega arith) e ∙ l.invariant.3,
    )

pub returns : goal.returns
returns c =
    let l = c.loop-left in
    let i : l.left ≡ 0 = omega arith in
    let a = c.args in
    record {
      ran = record { tuning = l.invariant.1; state = rw i at l.invariant.3; tuned = l.invariant.0 };
      count_value = omega (
        arith,
        l.invariant.2,
        length-window (back (ring a.at a.line.now)) a.f.tuning.length a.advance,
      );
    }
