-- `loops::while_waiting` meets its contract: its loop's, beside the change that waits.
-- Assumes nothing.
use mathlib.Core.Path.{refl, sym, subst}
use native.Mathlib.Omega.{arith}
use lib.ListN.{length}
use Rattle.voice.specs.declared.Waiting.{Waiting}
use Rattle.voice.specs.Valid.{Preparing, Waiting-valid}
use Rattle.loops.specs.Carried.{kind_in, Leads}
use Rattle.loops.proofs.while_waiting.Goals as goal
use Rattle.loops.proofs.while_waiting.Lts as lts
use Rattle.loops.proofs.while_waiting.Reads as reads
use Rattle.loops.proofs.while_waiting.Tie as tie

module _ (s : lts.Start tie.the-claims reads.Pre reads.Post tie.handed_clauses) where
  waits : Preparing s.args.h.advance (kind_in s.args.h.waiting) s.args.e s.args.taken
  waits =
      subst (λ (w : Waiting). Waiting-valid s.args.h.advance w) s.requires.waiting_value.0
      s.requires.valid.0.fit.waiting

  leads : Leads s.args.h.waiting s.args.e.tuning.order s.args.e (length s.args.buffer.now) s.args.h.advance
  leads =
      let a = s.args in
      subst (λ (w : Waiting). Leads w a.e.tuning.order a.e (length a.buffer.now) a.h.advance)
      (sym s.requires.waiting_value.0) (refl, refl, s.requires.valid.2)

pub place-far-requires : goal.place-far-requires
place-far-requires c =
    let t = (waits c.before.before.before).tuned in
    (c.requires.valid.0.fit.at, t.short, omega (arith, t.long))

pub by_orders-requires : goal.by_orders-requires
by_orders-requires c =
    let s = c.before.before.before.before.before.before in
    let v = c.requires.valid in
    let w = c.requires.waiting_value in
    record {
      valid = (v.0, v.1);
      left_value = (w.1, (waits s).tuned, leads s);
      from_value = (c.place-from.ensures, c.place-far.ensures, w.2, w.3);
    }
