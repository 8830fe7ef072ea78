use Rattle.load.proofs.Line.{zero-at}
use Rattle.load.proofs.Found.{not_there}
use Rattle.load.specs.Words.{read}
use Rattle.form.specs.Parts.{value}
use Prim.Native.Nat.{ℕ, ◌+◌, ◌*◌}
use mathlib.Core.Path.{refl, sym, ap, ◌∙◌}
use Rattle.load.proofs.lay.Goals as goal

-- src/lib.rt:86:9
pub fill-requires : goal.fill-requires
fill-requires c = (c.requires c.if-there-eq1.true, c.fill-arg-1.given.0.1)

-- src/lib.rt:87:9
pub returns-then-there-eq1 : goal.returns-then-there-eq1
returns-then-there-eq1 c =
    let s = c.args in
    let there = c.if-there-eq1.true in (
      c.fill.ensures.0,
      λ k h. c.fill.ensures.1 k h ∙ ap (λ (t : ℕ). value (read s.s.now (s.at + 4 * k) t 0)) (sym there),
    )

-- src/lib.rt:80:1
pub returns : goal.returns
returns c =
    let s = c.args in
    (refl, λ k h. zero-at k ∙ ap value (not_there s.s.now (s.at + 4 * k) s.there 0 c.if-there-eq1.false))
