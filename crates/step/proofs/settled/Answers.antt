-- `step::settled` meets its contract: by what waits.
-- Assumes nothing.
use mathlib.Core.Path.{◌≡◌, subst, ap, ◌∙◌}
use lib.IntN.{ℤ}
use Rattle.voice.specs.declared.Waiting.{Waiting}
use Rattle.voice.specs.declared.Head.{Head}
use Rattle.voice.specs.Struct.{settled_of}
use Rattle.voice.specs.Valid.{Preparing, Waiting-valid}
use Rattle.step.specs.Sample.{Settles}
use Rattle.step.proofs.Settles.{settles_idle, settles}
use Rattle.step.proofs.settled.Goals as goal

settles-as : {h r r' : Head} {w w' : Waiting} {g : ℤ} → w ≡ w' → r ≡ r' → Settles h w' g r' → Settles h w g r
settles-as e i z = rw (e, i) z

pub moved-requires : goal.moved-requires
moved-requires c =
    let p = c.in-Prepared in
    let w : Preparing c.args.h.advance p.kind p.e p.taken = subst (λ (w : Waiting). Waiting-valid c.args.h.advance w) p.is c.requires.1 in
    (w.tuned, c.requires.2)

pub returns-in-Idle : goal.returns-in-Idle
returns-in-Idle c = rw c.in-Idle.is (settles_idle c.requires.0)

pub returns-in-Prepared : goal.returns-in-Prepared
returns-in-Prepared c =
    let p = c.in-Prepared in
    settles-as p.is
    (c.settle.ensures ∙ ap (settled_of c.args.h p.kind c.moved.result) c.counted.ensures)
    (settles c.requires.0 p.kind p.taken c.moved.ensures)
