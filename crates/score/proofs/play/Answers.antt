-- `score::play` meets its contract: each turn reads a record and follows it. Answers/Loop.antt has what is known of
-- the record, Answers/Waited.antt its wait, and Answers/Followed.antt what it sets. Assumes nothing.
mod Loop
mod Waited
mod Followed
use Rattle.std.proofs.Common.{rules}
use Rattle.std.specs.Prelude.{Err}
use mathlib.Core.Path.{◌≡◌, refl, sym, ◌∙◌}
use native.Mathlib.Omega.{arith}
use borrow.Author.Tests.{eqb-true}
use lib.ListN.{length}
use Rattle.refusal.proofs.Numbers.{refused-above}
use Rattle.voice.specs.Struct.{state_of}
use Rattle.follow.proofs.Record.{does_as, does-still}
use Rattle.score.proofs.Playing.{all-played, refused}
use Rattle.score.proofs.play.Answers.Loop.{bytes, opened, lent, voice, left, index}
use Rattle.score.proofs.play.Answers.Loop.{done, output, playing, some, number_is}
use Rattle.score.proofs.play.Answers.Waited.{went, stretch, waited}
use Rattle.score.proofs.play.Answers.Followed.{g, k, same, fewer, Follows, acts, announced, ends_with, plays-on}
use Rattle.score.proofs.play.Goals as goal
use Rattle.score.proofs.play.Goals.{then-announces+in_ok-f, else-announces+then-sets+in_ok-act, else-announces+else-sets}

pub returns-in_err-refused : goal.returns-in_err-refused
returns-in_err-refused c =
    let r = c.before.before.before.before in
    let n = c.in_err-refused.field-0.0 in
    let i : c.from_residual.result ≡ Err n = search rules in
    rw i (refused (bytes r) (opened r) (lent r) (voice r) (left r) (index r) (done r) (output r) (playing r)
    (some r) (number_is r c.in_err-refused.ensures) (refused-above n))

pub rest-head-requires : goal.rest-head-requires
rest-head-requires c = let a = c.before.before.before.before in ((went a).1, (stretch a).within)

pub started-requires : goal.started-requires
started-requires c = (waited c.before.before.before.before.before.before).1.fit

pub returns-in_err-f : goal.returns-in_err-f
returns-in_err-f c =
    let o = c.before.before.before.before.before.before.before.before.before.before in
    let n = c.in_err-f.field-0.0 in
    let i : c.from_residual-in_err-f.result ≡ Err n = search rules in
    let alone = c.announces.ensures.v_value c.if-announces.true (state_of (g o) (k o)) in
    rw i (ends_with o (announced o alone (c.in_err-f.ensures (k o) (waited o).1)) (refused-above n))

pub act-requires : goal.act-requires
act-requires c = (waited c.before.before.before.before.before.before.before.before.before.before).1

pub returns-in_err-act : goal.returns-in_err-act
returns-in_err-act c =
    let o = c.before.before.before.before.before.before.before.before.before.before.before.before.before.before in
    let n = c.in_err-act.field-0.0 in
    let i : c.from_residual-in_err-act.result ≡ Err n = search rules in
    rw i (ends_with o (acts o c.in_err-act.ensures) (refused-above n))

pub loop-t-smaller : goal.loop-t-smaller
loop-t-smaller c = fewer c.before.before.before.before.before.before

pub loop-t-preserved : goal.loop-t-preserved
loop-t-preserved c =
    let o = c.before.before.before.before.before.before in
    let f : Follows o (record { refusal = 0; head = c.if-announces.head }) = elim c.if-announces.branch [
      | then-announces+in_ok-f w ↦
          let alone = c.announces.ensures.v_value w.if-announces.true (state_of (g o) (k o)) in
          announced o alone (rw (w.head-is ∙ w.settle-head.ensures) (w.in_ok-f.ensures (k o) (waited o).1))
      | else-announces+then-sets+in_ok-act w ↦ does_as (acts o w.in_ok-act.ensures) refl w.head-is
      | else-announces+else-sets w ↦
          does_as (acts o (does-still ((w.sets.ensures (state_of (g o) (k o))).0 w.if-sets.false) (waited o).1)) refl w.head-is
    ] in
    (plays-on o f refl, f.valid, same o)

pub returns : goal.returns
returns c =
    let l = c.loop-t in
    let s = c.args in
    all-played s.records.now (state_of s.head s.line.now) s.output.now
    (state_of l.head l.line) l.t.now l.progress.place l.progress.written l.output
    l.invariant.0 (omega (arith, eqb-true (length l.t.now) 0 (sym c.is_empty.ensures ∙ c.loop-t-test.false)))
