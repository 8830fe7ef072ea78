-- `merge::alone` meets its contract: the header, and then its records.
use mathlib.Core.Path.{sym, ap, subst, ◌∙◌}
use mathlib.Core.List.{List}
use Prim.Native.Nat.{ℕ}
use borrow.Author.Rules.{part_to_end}
use lib.ListN.{drop}
use Rattle.refusal.proofs.Numbers.{refused-above}
use Rattle.rule.specs.Calls.{Opening}
use Rattle.score.specs.Run.{opening}
use Rattle.outline.specs.Outline.{Outline, in_force}
use Rattle.outline.specs.Struct.{outline_of, ended, PlaysAll}
use Rattle.merge.proofs.Opens.{run-refused, run-plays}
use Rattle.merge.proofs.alone.Goals as goal

pub returns-in-Ok : goal.returns-in-Ok
returns-in-Ok c =
    let s = c.args.s.now in
    let o = c.in-Ok.o in
    let h = c.in-Ok.ensures in
    let e = ended c.play.result in
    let course = c.opening_course.result in
    let starts = c.opening_course.ensures ∙ ap (λ (x : Opening). in_force x.L x.d) h.2 in
    run-plays s e (sym h.0)
    (subst (λ (u : Outline). PlaysAll (opening s).N (opening s).Na u (drop 8 s) e) starts
    (subst (λ (x : Opening). PlaysAll x.N x.Na (outline_of course) (drop 8 s) e) h.2
    (subst (λ (t : List ℕ). PlaysAll o.tuning.order o.advance (outline_of course) t e) (part_to_end s 8) c.play.ensures)))

pub returns-in-Err : goal.returns-in-Err
returns-in-Err c = run-refused c.args.s.now c.in-Err.ensures (refused-above c.in-Err.refusal)
