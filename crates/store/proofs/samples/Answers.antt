-- `store::samples` meets its contract: one sample after the other, the oldest first.
use lib.ListN.{length}
use mathlib.Core.Path.{◌≡◌, sym, ap, ◌∙◌}
use Prim.Native.Nat.{◌+◌, ◌-◌, ◌*◌}
use native.Mathlib.Omega.{arith}
use Rattle.form.specs.Parts.{word}
use Rattle.store.proofs.Laid.{one-more, all-there, all-put, room-all, oldest, oldest-at, oldest-long, read_small}
use Rattle.store.proofs.samples.Goals as goal

pub word-requires : goal.word-requires
word-requires c = rw c.read.ensures (read_small (2112 - c.loop-i.i - 1) c.requires.2)

pub put-requires : goal.put-requires
put-requires c =
    let s = c.args in
    let long : length s.line.now ≡ 2112 = omega arith in
    omega (
      arith,
      room-all s.at s.on (oldest s.from s.line.now) s.out.now c.if-not-on.false c.requires.0,
      oldest-long s.from s.line.now long,
      c.loop-i.auto.out,
      c.loop-i-test.true,
    )

pub loop-i-preserved : goal.loop-i-preserved
loop-i-preserved c =
    let s = c.args in
    let long : length s.line.now ≡ 2112 = omega arith in
    let l = c.loop-i in
    let many = oldest-long s.from s.line.now long in
    one-more c.put.new.out c.word.result (s.at + 4 * (l.i + 1)) l.invariant (omega (arith, many, c.loop-i-test.true))
    (omega (arith, room-all s.at s.on (oldest s.from s.line.now) s.out.now c.if-not-on.false c.requires.0, l.auto.out))
    (c.word.ensures ∙ ap word c.read.ensures ∙ sym (oldest-at s.from s.line.now long l.i c.loop-i-test.true))
    c.put.ensures (omega arith)

pub returns : goal.returns
returns c =
    let s = c.args in
    let long : length s.line.now ≡ 2112 = omega arith in
    let l = c.loop-i in
    let many = oldest-long s.from s.line.now long in
    all-put s.out.now l.out s.at s.on (oldest s.from s.line.now) (s.at + 8448) c.if-not-on.false
    (all-there l.invariant (omega (arith, many, c.loop-i-test.false))) (omega (arith, many))
