-- `follow::act` meets its contract: the parts of the record, or the one call of an instant change alone.
-- Assumes nothing.
use Rattle.std.proofs.Common.{rules}
use Rattle.std.specs.Prelude.{Err}
use mathlib.Core.Path.{◌≡◌, sym, ap₂, subst, ◌∙◌}
use mathlib.Core.List.{List}
use Prim.Native.Nat.{ℕ, ◌+◌}
use Rattle.rule.specs.Calls.{Call}
use Rattle.voice.specs.Called.{Answer}
use Rattle.voice.specs.Struct.{state_of}
use Rattle.voice.specs.Called.{On}
use Rattle.follow.specs.Follow.{change, act_calls}
use Rattle.follow.specs.Does.{Does}
use Rattle.follow.proofs.Following.{does-one, none_both, change-alone, at_once, on_as}
use Rattle.follow.proofs.act.Goals as goal
use Rattle.follow.proofs.act.Lts as lts
use Rattle.follow.proofs.act.Reads as reads
use Rattle.follow.proofs.act.Tie as tie

-- a change alone, once its manner is known
module _ (c : (lts.After-bit5 tie.the-claims reads.Pre reads.Post tie.handed_clauses)) where
  made : {a : Answer} → let s = c.args in
      On s.head.now s.line.now (change s.r.now (state_of s.head.now s.line.now)) a s.line.now
      → Does s.head.now s.line.now (act_calls s.r.now (state_of s.head.now s.line.now)) a
      s.line.now
  made {a} o =
      let s = c.args in
      let g = c.bit-3 in
      let p = c.bit-4 in
      let no = none_both g.result p.result c.if-bit-ne0.false in
      let added = ap₂ (λ (x y : ℕ). x + y) c.bit.ensures c.bit-2.ensures in
      subst (λ (cs : List Call). Does s.head.now s.line.now cs a s.line.now)
      (change-alone s.r.now (state_of s.head.now s.line.now) (sym g.ensures ∙ no.0)
      (λ z. c.if-bit-eq0.false (added ∙ z)) (sym p.ensures ∙ no.1))
      (does-one s.head.now s.line.now o)

pub returns-in_err-head : goal.returns-in_err-head
returns-in_err-head c =
    let s = c.args in
    let l = s.line.now in
    let i : c.from_residual.result ≡ Err c.in_err-head.field-0.0 = search rules in
    rw i (made c.before.before.before.before.before.before.before (on_as c.in_err-head.ensures
    (at_once s.r.now (state_of s.head.now l) (λ z. c.if-bit-eq0-2.false (c.bit-5.ensures ∙ z)))))

pub returns : goal.returns
returns c =
    let s = c.args in
    made c.before.before.before.before.before.before (on_as c.in_ok-head.ensures
    (at_once s.r.now (state_of s.head.now s.line.now)
    (λ z. c.if-bit-eq0-2.false (c.bit-5.ensures ∙ z))))
