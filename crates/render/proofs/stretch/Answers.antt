-- `render::stretch` meets its contract: where `quiet` renders no sample, `loud` renders one.
-- Assumes nothing.
use mathlib.Core.Path.{sym, subst}
use Prim.Native.Nat.{ℕ}
use native.Mathlib.Omega.{arith}
use Rattle.voice.specs.declared.Head.{Head}
use Rattle.loops.specs.Rendered.{Went}
use Rattle.loops.proofs.Fed.{as_long}
use Rattle.render.proofs.Joined.{rendered-none}
use Rattle.render.proofs.stretch.Goals as goal
use Rattle.render.proofs.stretch.Lts as lts
use Rattle.render.proofs.stretch.Reads as reads
use Rattle.render.proofs.stretch.Tie as tie

-- once what a loop leaves is put into the head
module _ (c : lts.After-after tie.the-claims reads.Pre reads.Post tie.handed_clauses) where
  went : Went c.args.fed c.args.buffer.now c.args.h c.args.line.now
      c.quiet-p.new.buffer c.after-k.result c.quiet-p.new.line c.quiet-p.result.ran.done
  went =
      let s = c.args in
      let q = c.quiet-p in
      subst
      (λ (k : Head). Went s.fed s.buffer.now s.h s.line.now q.new.buffer k q.new.line
      q.result.ran.done)
      (sym c.after-k.ensures)
      q.ensures.went

pub after-k-requires : goal.after-k-requires
after-k-requires c = (c.requires.0.fit.waiting, c.quiet-p.ensures.done_bound)

pub returns-then-n-ne0 : goal.returns-then-n-ne0
returns-then-n-ne0 c =
    record { went = went c.before; done_nonzero = λ h. omega (arith, c.if-n-ne0.true) }

-- where none is rendered
none : (c : lts.Else1 tie.the-claims reads.Pre reads.Post tie.handed_clauses)
    → Went c.args.fed c.args.buffer.now c.args.h c.args.line.now c.quiet-p.new.buffer c.after-k.result
    c.quiet-p.new.line 0
none c =
    let s = c.args in
    let q = c.quiet-p in
    subst
    (λ (j : ℕ). Went s.fed s.buffer.now s.h s.line.now q.new.buffer c.after-k.result q.new.line j)
    c.if-n-ne0.false
    (went c.before)

pub loud-requires : goal.loud-requires
loud-requires c = let n = none c.before.before in (n.1, n.0.quiet)

pub returns : goal.returns
returns c =
    let o = c.loud.ensures in
    let n = none c.before.before.before.before in
    let s = c.args in
    let l = as_long s.fed 0 c.quiet-p.new.buffer s.buffer.now n.0.long in
    record {
      went = (rendered-none n.0 o.went.0, o.went.1);
      done_nonzero = λ h. o.done_nonzero (omega (arith, l));
    }
