-- `step::feedback::circulate` meets its contract: the sample read is s(n − L), and the one stored is s(n).
-- Assumes nothing.
use mathlib.Core.Path.{sym, ap, subst, ◌∙◌}
use mathlib.Core.List.{◌∷◌}
use Prim.Native.Nat.{◌-◌, ◌≤◌}
use lib.IntN.{ℤ, nat_abs, ◌+ℤ◌}
use lib.ListN.{take}
use Rattle.integer.specs.Rounding.{M, clip}
use Rattle.integer.proofs.Rounding.{clip_abs}
use Rattle.line.specs.Ring.{ring}
use Rattle.voice.proofs.Within.{read-within}
use Rattle.step.specs.Sample.{Hears}
use Rattle.step.proofs.feedback.circulate.Goals as goal

pub hear-o-requires : goal.hear-o-requires
hear-o-requires c =
    let r = c.requires.tuned in
    (r.0, read-within (c.args.f.tuning.length - 1) r.4 c.read-a.ensures)

pub write-requires : goal.write-requires
write-requires c =
    let a = c.args in
    let u = (a.x.n +ℤ a.noise.n) +ℤ c.looped.result.n in
    (c.requires.tuned.3, subst (λ (z : ℤ). nat_abs z ≤ M) (sym c.mixed-s.ensures) (clip_abs u))

pub returns : goal.returns
returns c =
    let a = c.args in
    let s =
    c.mixed-s.ensures ∙ ap (λ (b : ℤ). clip ((a.x.n +ℤ a.noise.n) +ℤ b)) c.looped.ensures.0 in
    record {
      hears = subst (λ (x : ℤ). Hears a.f x c.hear-o.result) c.read-a.ensures c.hear-o.ensures;
      place = c.write.ensures.0;
      line = c.write.ensures.1 ∙ ap (λ (s : ℤ). s ∷ take 2111 (ring a.at a.line.now)) s;
    }
