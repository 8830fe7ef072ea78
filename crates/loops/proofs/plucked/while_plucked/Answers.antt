-- `loops::plucked::while_plucked` meets its contract: the head is what its loop leaves.
-- Assumes nothing.
use mathlib.Core.Path.{◌≡◌, refl, sym, ap, subst, ◌∙◌}
use Prim.Native.Nat.{ℕ}
use native.Mathlib.Omega.{arith}
use lib.ListN.{length}
use Rattle.voice.specs.declared.Filter.{Filter}
use Rattle.voice.specs.declared.Head.{Head}
use Rattle.loops.specs.Carried.{anew_of, left_of, sung_of}
use Rattle.loops.specs.Rendered.{Went}
use Rattle.loops.proofs.plucked.while_plucked.Goals as goal

pub overflow_add-h : goal.overflow_add-h
overflow_add-h c = omega (arith, c.requires.waiting_value.1.0)

pub round-requires : goal.round-requires
round-requires c = c.requires.waiting_value.1.0

pub returns : goal.returns
returns c =
    let s = c.args in
    let h = s.h in
    let o = c.by_order-r in
    let y = o.result.last in
    let p = o.result.rest in
    let n = length s.buffer.now in
    let f = anew_of h.filter.tuning.order h.filter o.result.state in
    let e : c.sung-head.result ≡ sung_of h o.result n
    = c.sung-head.ensures
    ∙ ap (λ (f : Filter). left_of h f y p c.round.result) c.anew-filter.ensures
    ∙ ap (λ (at : ℕ). left_of h f y p at) c.round.ensures in (
      subst
          (λ (k : Head). Went s.fed s.buffer.now h s.line.now o.new.buffer k o.new.line n)
          (sym e)
          o.ensures,
      refl,
    )
