-- `loops::carried::after` meets its contract: by what waits, and whether its time has come.
-- Assumes nothing.
use mathlib.Core.Path.{sym, ap, subst, ◌∙◌}
use Prim.Native.Nat.{ℕ}
use Rattle.voice.specs.declared.Filter.{Filter}
use Rattle.voice.specs.declared.Waiting.{Waiting}
use Rattle.voice.specs.declared.Head.{Head}
use Rattle.voice.specs.Struct.{settled_of, with_of}
use Rattle.voice.specs.Valid.{Preparing, Waiting-valid}
use Rattle.loops.specs.Carried.{anew_of, gone_of, moved_of, ran_of}
use Rattle.loops.proofs.carried.after.Goals as goal

pub counted-requires : goal.counted-requires
counted-requires c =
    let p = c.in-Prepared in
    let w : Preparing c.args.h.advance p.kind p.e p.taken =
    subst (λ (w : Waiting). Waiting-valid c.args.h.advance w) p.is c.requires.0 in
    w.counted

pub returns-in-Idle : goal.returns-in-Idle
returns-in-Idle c =
    let a = c.args in
    let h = a.h in
    let k = ran_of h a.p.ran in
    let e = c.in-Idle.is in
    c.moved.ensures
    ∙ ap (λ (w : Waiting). with_of k k.filter w) e
    ∙ ap (λ (w : Waiting). gone_of w h a.p) (sym e)

pub returns-in-Prepared : goal.returns-in-Prepared
returns-in-Prepared c =
    let a = c.args in
    let h = a.h in
    let p = c.in-Prepared in
    let k = moved_of h a.p.ran in
    let d = anew_of p.e.tuning.order p.e a.p.next in
    c.settle.ensures
    ∙ ap (λ (k : Head). settled_of k p.kind c.renewed.result c.counted.result) c.moved-in-Prepared.ensures
    ∙ ap (λ (d : Filter). settled_of k p.kind d c.counted.result) c.renewed.ensures
    ∙ ap (λ (n : ℕ). settled_of k p.kind d n) c.counted.ensures
    ∙ ap (λ (w : Waiting). gone_of w h a.p) (sym p.is)
