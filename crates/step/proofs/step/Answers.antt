-- `step::step` meets its contract: what its parts give is the rule's step.
-- Assumes nothing.
use Prim.Native.Nat.{◌-◌}
use native.Mathlib.Omega.{arith}
use Rattle.rule.specs.State.{back}
use Rattle.line.specs.Ring.{ring}
use Rattle.voice.proofs.Within.{read-within}
use Rattle.step.proofs.Steps.{preview_within, reads, heard-fit, steps}
use Rattle.step.proofs.step.Goals as goal

pub read-g-requires : goal.read-g-requires
read-g-requires c =
    let v = c.requires.0 in
    let p = preview_within v.fit c.preview.ensures in
    (v.fit.at, p.0, omega (arith, p.1))

pub settled-requires : goal.settled-requires
settled-requires c =
    let v = c.requires.0 in (
      heard-fit v c.sound-p.ensures c.circulate-r.ensures,
      v.fit.waiting,
      read-within (c.preview.result - 1) v.line c.read-g.ensures,
    )

pub returns : goal.returns
returns c =
    let h = c.args.h in
    let q = back (ring h.at c.args.line.now) in
    steps c.requires.0 c.sound-p.ensures c.circulate-r.ensures
    (reads h q c.preview.ensures c.read-g.ensures)
    c.settled.ensures
