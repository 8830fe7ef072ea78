-- `render::quiet::none` meets its contract: what waits is as it was, since its time has not come.
-- Assumes nothing.
use mathlib.Core.Path.{◌≡◌, refl, ap, subst, ◌∙◌}
use Prim.Native.Nat.{ℕ, ◌+◌, ◌%◌, min}
use native.Mathlib.Omega.{arith}
use Rattle.voice.specs.declared.Waiting.{Waiting}
use Rattle.voice.specs.Struct.{settled_of}
use Rattle.voice.specs.Valid.{Preparing, Waiting-valid}
use Rattle.loops.specs.declared.Led.{Led}
use Rattle.loops.specs.Carried.{carried_of, gone_of}
use Rattle.loops.proofs.Carrying.{carried_self, due_self}
use Rattle.render.proofs.quiet.none.Goals as goal

pub returns-in-Idle : goal.returns-in-Idle
returns-in-Idle c =
    let h = c.args.h in
    let p : Led = record {
      ran = record { state = h.filter.state; last = h.last; done = 0 };
      next = h.filter.state;
    } in
    let still : (h.at + 0) % 2112 ≡ h.at = omega (arith, c.requires.at) in
    let w = c.in-Idle.is in (
      ap (λ (w : Waiting). gone_of w h p) w
          ∙ ap (λ (at : ℕ). carried_of h h.filter h.last at) still
          ∙ carried_self h refl w,
      refl,
    )

pub returns-in-Prepared : goal.returns-in-Prepared
returns-in-Prepared c =
    let h = c.args.h in
    let g = c.in-Prepared in
    let i = g.field-0 in
    let n = g.field-2 in
    let p : Led = record {
      ran = record { state = h.filter.state; last = h.last; done = 0 };
      next = g.e.state;
    } in
    let still : (h.at + 0) % 2112 ≡ h.at = omega (arith, c.requires.at) in
    let waits : Preparing h.advance i g.e n =
    subst (λ (w : Waiting). Waiting-valid h.advance w) g.is c.requires.waiting in
    let taken : min (n + 0) h.advance ≡ n = omega (arith, waits.counted) in (
      ap (λ (w : Waiting). gone_of w h p) g.is
          ∙ ap (λ (at : ℕ). settled_of (carried_of h h.filter h.last at) i g.e (min (n + 0) h.advance))
          still
          ∙ due_self h refl refl g.is taken waits.early,
      refl,
    )
