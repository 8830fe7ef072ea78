-- `outline::follow` meets its contract: the wait, and what the record sets after it.
use mathlib.Core.Path.{sym, subst}
use Rattle.outline.specs.Outline.{Outline}
use Rattle.outline.specs.Struct.{outline_of, Asks, Acts}
use Rattle.outline.proofs.Calls.{record-result, record-from}
use Rattle.outline.proofs.Parts.{comes_as}
use Rattle.outline.proofs.follow.Goals as goal

pub returns : goal.returns
returns c =
    let s = c.args in
    let r = s.r.now in
    let o = outline_of s.c in
    record {
      comes = comes_as c.act.result (sym (record-result s.order s.advance r o)) (sym (record-from s.order s.advance r o))
          (subst (λ (u : Outline). Acts s.order s.advance u r c.act.result) c.after_samples-waited.ensures c.act.ensures);
      asks = subst (λ (u : Outline). Asks u r c.change_target.result) c.after_samples-waited.ensures c.change_target.ensures;
    }
