-- `record::cut::fill` meets its contract: each field stands in its word after those before it.
use mathlib.Core.Path.{◌≡◌}
use Prim.Native.Nat.{ℕ}
use native.Mathlib.Omega.{arith}
use Rattle.record.specs.Record.{before}
use Rattle.record.specs.Words.{cut_from}
use Rattle.record.proofs.Words.{Left, left-first, left-next, left_fifth, placed, absent}
use Rattle.record.proofs.cut.fill.Goals as goal
use Rattle.record.proofs.cut.fill.Lts as lts
use Rattle.record.proofs.cut.fill.Reads as reads
use Rattle.record.proofs.cut.fill.Tie as tie

-- what is left of the first word at each of its fields, and the fields
module _ (c : (lts.After-field4 tie.the-claims reads.Pre reads.Post)) where
  abbrev m : ℕ
  m = c.args.map

  abbrev w : ℕ
  w = c.args.w.low

  abbrev v : ℕ
  v = c.args.w.high

  at_length : Left w 1 m 1 c.past-w1.result
  at_length =
      left-next w 1 m 0 (omega arith) (left-first w m)
      c.past-w1.ensures

  at-delay : Left w 1 m 2 c.past-w2.result
  at-delay = left-next w 1 m 1 (omega arith) at_length c.past-w2.ensures

  at-loss : Left w 1 m 3 c.past-w3.result
  at-loss = left-next w 1 m 2 (omega arith) at-delay c.past-w3.ensures

  wait-is : c.field-wait.result ≡ cut_from m w 1 0
  wait-is = placed w 1 m 0 (left-first w m) c.field-wait.ensures

  length_is : c.field-length.result ≡ cut_from m w 1 1
  length_is = placed w 1 m 1 at_length c.field-length.ensures

  delay_is : c.field-delay.result ≡ cut_from m w 1 2
  delay_is = placed w 1 m 2 at-delay c.field-delay.ensures

  loss-is : c.field-loss.result ≡ cut_from m w 1 3
  loss-is = placed w 1 m 3 at-loss c.field-loss.ensures

pub returns-then-map-eq0 : goal.returns-then-map-eq0
returns-then-map-eq0 c =
    let f = c.before.before in
    let z = c.if-map-eq0.true in
    let p = before (m f) 4 in
    let e0 = wait-is f in
    let e1 = length_is f in
    let e2 = delay_is f in
    let e3 = loss-is f in
    let e4 = absent (v f) p (m f) 4 (omega (arith, z)) in
    let e5 = absent (v f) p (m f) 5 (omega (arith, z)) in
    let e6 = absent (v f) p (m f) 6 (omega (arith, z)) in
    cc

pub returns : goal.returns
returns c =
    let b = c.before.before.before.before in
    let f = b.before.before.before in
    let p = before (m f) 4 in
    let at-amplitude = left_fifth (v f) (m f) in
    let at_count = left-next (v f) p (m f) 4 (omega arith) at-amplitude b.past-w5.ensures in
    let at-seed = left-next (v f) p (m f) 5 (omega arith) at_count b.past-w6.ensures in
    let e0 = wait-is f in
    let e1 = length_is f in
    let e2 = delay_is f in
    let e3 = loss-is f in
    let e4 = placed (v f) p (m f) 4 at-amplitude c.field.ensures in
    let e5 = placed (v f) p (m f) 5 at_count c.field-2.ensures in
    let e6 = placed (v f) p (m f) 6 at-seed c.field-3.ensures in
    cc
