-- `kept::blocks::unfed` meets its contract: one stretch, or one and the rest.
use mathlib.Core.Path.{◌≡◌, sym, subst}
use mathlib.Core.Bool.{false}
use Prim.Native.Nat.{ℕ}
use native.Mathlib.Omega.{arith}
use lib.ListN.{length}
use Rattle.voice.specs.declared.Head.{Head}
use Rattle.loops.specs.Rendered.{Went}
use Rattle.loops.proofs.Fed.{length-fed, as_long}
use Rattle.render.proofs.Unfed.{unfed_all}
use Rattle.kept.proofs.blocks.unfed.Goals as goal
use Rattle.kept.proofs.blocks.unfed.Lts as lts
use Rattle.kept.proofs.blocks.unfed.Reads as reads
use Rattle.kept.proofs.blocks.unfed.Tie as tie

pub after-k-requires : goal.after-k-requires
after-k-requires c = (c.requires.fit.waiting, c.begin-p.ensures.done_bound)

-- the first stretch
module _ (c : (lts.After-after tie.the-claims reads.Pre reads.Post tie.handed_clauses)) where
  abbrev done : ℕ
  done = c.begin-p.result.ran.done

  went : Went false c.args.output.now c.args.head c.args.line.now
      c.begin-p.new.buffer c.after-k.result c.begin-p.new.line done
  went =
      subst
      (λ (k : Head). Went false c.args.output.now c.args.head c.args.line.now
      c.begin-p.new.buffer k c.begin-p.new.line done)
      (sym c.after-k.ensures)
      c.begin-p.ensures.went

  long : length c.begin-p.new.buffer ≡ length c.args.output.now
  long = as_long false done c.begin-p.new.buffer c.args.output.now went.0.long

pub returns-then-n-output : goal.returns-then-n-output
returns-then-n-output c =
    let a = c.before in
    let s = c.args in
    let n = long a in
    unfed_all s.output.now s.head s.line.now c.begin-p.new.buffer c.after-k.result
    c.begin-p.new.line (done a) (went a) (omega (arith, c.if-n-output.true, n))

pub rest-requires : goal.rest-requires
rest-requires c =
    let a = c.before.before.before in
    let w = went a in
    let k = c.begin-p.new.buffer in
    (w.1, omega (arith, w.0.within, w.0.long, length-fed false (done a) k))

pub returns : goal.returns
returns c =
    let a = c.before.before.before.before.before in
    let s = c.args in
    c.rest.ensures s.output.now s.head s.line.now (went a)
